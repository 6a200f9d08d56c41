use Rattle.std.proofs.Common.{◌∙◌, ap, refl, slice_index, sym}
use Rattle.rand_chacha.proofs.LaneLemmas.{slice_index-lane}
use Rattle.rand_chacha.specs.Block.{diagonal_round}
use Rattle.brace_draw.proofs.Words.{word_after}
use Rattle.brace_draw.proofs.lanes.diagonal_word.Goals.{in-0, in-1, in-2, in-3, in-4, in-5, in-6, in-7, in-8, in-9, in-10, in-11, in-12, in-13, in-14, in-15, in_default}
use Rattle.brace_draw.proofs.lanes.diagonal_word.Goals as goal

pub returns : goal.returns
unfolding diagonal_round
returns c = elim c.match-k.branch [
  | in-0 w ↦ λ j low. word_after c.args.x j c.args.k 0 _ _ _ w.result-is
      (ap (λ q. q.0) (w.quarter_round.ensures j low)) w.in-0.is refl
  | in-1 w ↦ λ j low. word_after c.args.x j c.args.k 1 _ _ _ w.result-is
      (ap (λ q. q.0) (w.quarter_round-in-1.ensures j low)) w.in-1.is refl
  | in-2 w ↦ λ j low. word_after c.args.x j c.args.k 2 _ _ _ w.result-is
      (ap (λ q. q.0) (w.quarter_round-in-2.ensures j low)) w.in-2.is refl
  | in-3 w ↦ λ j low. word_after c.args.x j c.args.k 3 _ _ _ w.result-is
      (ap (λ q. q.0) (w.quarter_round-in-3.ensures j low)) w.in-3.is refl
  | in-4 w ↦ λ j low. word_after c.args.x j c.args.k 4 _ _ _ w.result-is
      (ap (λ q. q.1) (w.quarter_round-in-4.ensures j low)) w.in-4.is refl
  | in-5 w ↦ λ j low. word_after c.args.x j c.args.k 5 _ _ _ w.result-is
      (ap (λ q. q.1) (w.quarter_round-in-5.ensures j low)) w.in-5.is refl
  | in-6 w ↦ λ j low. word_after c.args.x j c.args.k 6 _ _ _ w.result-is
      (ap (λ q. q.1) (w.quarter_round-in-6.ensures j low)) w.in-6.is refl
  | in-7 w ↦ λ j low. word_after c.args.x j c.args.k 7 _ _ _ w.result-is
      (ap (λ q. q.1) (w.quarter_round-in-7.ensures j low)) w.in-7.is refl
  | in-8 w ↦ λ j low. word_after c.args.x j c.args.k 8 _ _ _ w.result-is
      (ap (λ q. q.2) (w.quarter_round-in-8.ensures j low)) w.in-8.is refl
  | in-9 w ↦ λ j low. word_after c.args.x j c.args.k 9 _ _ _ w.result-is
      (ap (λ q. q.2) (w.quarter_round-in-9.ensures j low)) w.in-9.is refl
  | in-10 w ↦ λ j low. word_after c.args.x j c.args.k 10 _ _ _ w.result-is
      (ap (λ q. q.2) (w.quarter_round-in-10.ensures j low)) w.in-10.is refl
  | in-11 w ↦ λ j low. word_after c.args.x j c.args.k 11 _ _ _ w.result-is
      (ap (λ q. q.2) (w.quarter_round-in-11.ensures j low)) w.in-11.is refl
  | in-12 w ↦ λ j low. word_after c.args.x j c.args.k 12 _ _ _ w.result-is
      (ap (λ q. q.3) (w.quarter_round-in-12.ensures j low)) w.in-12.is refl
  | in-13 w ↦ λ j low. word_after c.args.x j c.args.k 13 _ _ _ w.result-is
      (ap (λ q. q.3) (w.quarter_round-in-13.ensures j low)) w.in-13.is refl
  | in-14 w ↦ λ j low. word_after c.args.x j c.args.k 14 _ _ _ w.result-is
      (ap (λ q. q.3) (w.quarter_round-in-14.ensures j low)) w.in-14.is refl
  | in-15 w ↦ λ j low. word_after c.args.x j c.args.k 15 _ _ _ w.result-is
      (ap (λ q. q.3) (w.quarter_round-in-15.ensures j low)) w.in-15.is refl
  | in_default w ↦ λ j low.
      ap (λ v. slice_index v j) w.result-is
      ∙ sym (slice_index-lane w.diagonal_round.result j c.args.k c.requires)
      ∙ ap (λ l. slice_index l c.args.k) (w.diagonal_round.ensures j low)
]
