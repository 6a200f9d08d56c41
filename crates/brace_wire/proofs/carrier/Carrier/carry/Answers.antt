use Rattle.std.proofs.Common.{◌∙◌, [], ◌∷◌, ◌++◌, List, ℕ, ap, sym, subst}
use Rattle.brace_wire.specs.Frames.{frame}
use Rattle.brace_wire.specs.Fitting.{IsOf}
use Rattle.brace_wire.specs.Streams.{Waiting}
use Rattle.brace_wire.proofs.FeedLemmas.{fed_one, one_frame}
use Rattle.brace_wire.proofs.carrier.Carrier.carry.Goals as goal

pub feed_in_pieces-requires-clause-whole : goal.feed_in_pieces-requires-clause-whole
feed_in_pieces-requires-clause-whole c = (
  c.args.f.now ∷ [],
  one_frame c.begin.new.self.types c.as_slice.result.now c.args.f.now
      (c.as_slice.ensures.value ∙ c.in_ok-append.ensures.written ∙ ap (λ (l : List ℕ). l ++ frame c.args.f.now) c.clear.ensures.items)
      (c.in_ok-append.ensures.fits c.begin.new.self.types (subst (λ types. IsOf types c.args.f.now.piece) (sym (ap (λ (d : Waiting). d.types) c.begin.ensures)) c.requires)),
)

pub returns-clause-same : goal.returns-clause-same
returns-clause-same c =
    fed_one c.feed_in_pieces.result c.begin.new.self.types c.as_slice.result.now c.args.out.now.items c.feed_in_pieces.new.out.items c.args.f.now
    (one_frame c.begin.new.self.types c.as_slice.result.now c.args.f.now
    (c.as_slice.ensures.value ∙ c.in_ok-append.ensures.written ∙ ap (λ (l : List ℕ). l ++ frame c.args.f.now) c.clear.ensures.items)
    (c.in_ok-append.ensures.fits c.begin.new.self.types (subst (λ types. IsOf types c.args.f.now.piece) (sym (ap (λ (d : Waiting). d.types) c.begin.ensures)) c.requires)))
    c.feed_in_pieces.ensures.read
