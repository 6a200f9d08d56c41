use Rattle.std.proofs.Common.{◌∙◌, ◌+◌, ◌-◌, ◌^◌, ◌<◌, min, length, sym, ap, subst}
use Rattle.brace_wire.proofs.RoundLemmas.{can_round_at, short_at, some_fates, round_done, whole_made, whole_nearer}
use Rattle.brace_wire.proofs.wire_lanes.WireLanes.round.Goals as goal

pub round_all-requires-clause-some : goal.round_all-requires-clause-some
round_all-requires-clause-some c = subst (λ fates. 0 < length fates) (sym c.as_slice.ensures.value) (some_fates _ _ c.self.invariant)

pub round_all-requires-clause-can : goal.round_all-requires-clause-can
round_all-requires-clause-can c = can_round_at _ _ c.self.invariant

pub round_all-requires-clause-short : goal.round_all-requires-clause-short
round_all-requires-clause-short c = short_at _ _ c.self.invariant

pub returns-in_err-round_all-clause-put : goal.returns-in_err-round_all-clause-put
returns-in_err-round_all-clause-put c =
    (round_done _ c.args.self.now c.self.view_is _ _ c.self.invariant c.round_all.ensures.types _ c.as_slice.ensures.value _ c.self.inside.rounds c.round_all.ensures.some_made).puts

pub returns-in_err-round_all-clause-taken : goal.returns-in_err-round_all-clause-taken
returns-in_err-round_all-clause-taken c =
    (round_done _ c.args.self.now c.self.view_is _ _ c.self.invariant c.round_all.ensures.types _ c.as_slice.ensures.value _ c.self.inside.rounds c.round_all.ensures.some_made).takes

pub returns-in_err-round_all-clause-events : goal.returns-in_err-round_all-clause-events
returns-in_err-round_all-clause-events c =
    (round_done _ c.args.self.now c.self.view_is _ _ c.self.invariant c.round_all.ensures.types _ c.as_slice.ensures.value _ c.self.inside.rounds c.round_all.ensures.some_made).events

pub invariant_of-self : goal.invariant_of-self
invariant_of-self c =
    (round_done _ c.args.self.now c.self.view_is _ _ c.self.invariant c.round_all.ensures.types _ c.as_slice.ensures.value _ _ c.round_all.ensures.some_made).sound

pub invariant_of-self-2 : goal.invariant_of-self-2
invariant_of-self-2 c =
    (round_done _ c.args.self.now c.self.view_is _ _ c.self.invariant c.round_all.ensures.types _ c.as_slice.ensures.value _ _ c.round_all.ensures.some_made).sound

pub returns : goal.returns
returns c =
    let done = round_done _ c.args.self.now c.self.view_is _ _ c.self.invariant c.round_all.ensures.types _ c.as_slice.ensures.value _ c.saturating_add-self-inside.result c.round_all.ensures.some_made in
    record {
      setting = done.setting;
      actors = done.actors;
      fates = done.fates;
      put = done.puts;
      taken = done.takes;
      events = done.events;
      made = whole_made _ c.args.self.now c.self.view_is _ _ c.self.invariant c.round_all.ensures.types _ c.as_slice.ensures.value _ c.saturating_add-self-inside.result c.in_ok-round_all.ensures.made;
      counted = c.saturating_add-self-inside.ensures ∙ ap (λ v. min (v.rounds + 1) (2 ^ 64 - 1)) c.self.view_is;
      not_counted = tt;
      nearer = whole_nearer _ c.args.self.now c.self.view_is _ _ c.self.invariant c.round_all.ensures.types _ c.as_slice.ensures.value _ c.saturating_add-self-inside.result c.in_ok-round_all.ensures.made;
    }
