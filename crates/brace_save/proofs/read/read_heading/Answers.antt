use Rattle.std.proofs.Common.{◌≡◌, ◌≤◌, ◌-◌, ◌^◌, ℕ, List, Bool, Bor, map, length, sym, subst, arith, rules, Ok, Err, true, false, refl}
use Rattle.std.specs.Prelude.{codes}
use Rattle.std.proofs.lemmas.List.{length-map}
use Rattle.brace_save.specs.inner.Steps.{IsHeading, line, version}
use Rattle.brace_save.proofs.Headings.{count_found, count_refused, headed_first, next_counts, next_headed, seed_counts, seeded, tick_counts, tick_headed}
use Rattle.brace_save.proofs.Begins.{place_range}
use Rattle.brace_save.proofs.read.read_heading.Goals as goal

known : (given : List (Bor (List ℕ))) (b : Bool) → (1 ≤ length given) × (line (map (λ (l : Bor (List ℕ)). l.now) given) 0 ≡ version b)
    → (1 ≤ length (map (λ (l : Bor (List ℕ)). l.now) given)) × (line (map (λ (l : Bor (List ℕ)). l.now) given) 0 ≡ version b)
known given b first = (omega (arith, first.0, length-map given (λ (l : Bor (List ℕ)). l.now)), first.1)

pub returns-in_err-tick-clause-refused : goal.returns-in_err-tick-clause-refused
returns-in_err-tick-clause-refused c = λ program rest cause err ok.
    let all = map (λ (l : Bor (List ℕ)). l.now) c.args.lines.now in
    let b = c.in_ok-tells_next.tells_next in
    let (some, first) = c.in_ok-tells_next.ensures.first in
    let failed : c.count_at.result ≡ Err cause = search rules in
    let long = length-map c.args.lines.now (λ (l : Bor (List ℕ)). l.now) in
    let places = place_range b in
    count_refused program all rest 1 b 0 0 0 (codes "tick ") (2 ^ 32) c.count_at.result cause (omega arith) (omega (arith, places.0)) (omega arith, omega arith, omega arith)
    (headed_first all b 0 0 0 (omega (arith, some, long)) first) (tick_counts b) (omega (arith, some, long)) c.count_at.ensures failed ok

pub returns-in_err-seed-clause-refused : goal.returns-in_err-seed-clause-refused
returns-in_err-seed-clause-refused c = λ program rest cause err ok.
    let all = map (λ (l : Bor (List ℕ)). l.now) c.args.lines.now in
    let b = c.in_ok-tells_next.tells_next in
    let tick = c.in_ok-tick.tick in
    let (some, first) = c.in_ok-tells_next.ensures.first in
    let told : c.count_at.result ≡ Ok tick = search rules in
    let failed : c.count_at-2.result ≡ Err cause = search rules in
    let long = length-map c.args.lines.now (λ (l : Bor (List ℕ)). l.now) in
    let (below, low, is) = count_found all 1 (codes "tick ") (2 ^ 32) tick c.count_at.result c.count_at.ensures told in
    let places = place_range b in
    count_refused program all rest 2 b tick 0 0 (codes "seed ") (2 ^ 64 - 1) c.count_at-2.result cause (omega arith) (omega (arith, places.0)) (low, omega arith, omega arith)
    (tick_headed all b tick 0 0 (omega (arith, some, long)) first below is) (seed_counts b) (omega (arith, below)) c.count_at-2.ensures failed ok

pub returns-in_err-next-clause-refused : goal.returns-in_err-next-clause-refused
returns-in_err-next-clause-refused c = λ program rest cause err ok.
    let all = map (λ (l : Bor (List ℕ)). l.now) c.args.lines.now in
    let failed : c.count_at-then-tells_next.result ≡ Err cause = search rules in
    let first : (1 ≤ length all) × (line all 0 ≡ version c.in_ok-tells_next.tells_next) = known c.args.lines.now c.in_ok-tells_next.tells_next c.in_ok-tells_next.ensures.first in
    let so = seeded all true c.in_ok-tells_next.tells_next c.in_ok-tick.tick c.in_ok-seed.seed c.count_at.result c.count_at-2.result c.if-tells_next.true first c.count_at.ensures (search rules) c.count_at-2.ensures (search rules) in
    count_refused program all rest 3 true c.in_ok-tick.tick c.in_ok-seed.seed 0 (codes "next ") (2 ^ 63) c.count_at-then-tells_next.result cause (omega arith) (omega arith) (so.tick_in_range, so.seed_in_range, omega arith)
    (so.headed 0) next_counts (omega (arith, so.there)) c.count_at-then-tells_next.ensures failed ok

pub returns-in_ok-next-clause-heading : goal.returns-in_ok-next-clause-heading
returns-in_ok-next-clause-heading c =
    let all = map (λ (l : Bor (List ℕ)). l.now) c.args.lines.now in
    let tick = c.in_ok-tick.tick in
    let seed = c.in_ok-seed.seed in
    let next = c.in_ok-next.next in
    let given : c.count_at-then-tells_next.result ≡ Ok next = search rules in
    let first = known c.args.lines.now c.in_ok-tells_next.tells_next c.in_ok-tells_next.ensures.first in
    let so = seeded all true c.in_ok-tells_next.tells_next tick seed c.count_at.result c.count_at-2.result c.if-tells_next.true first c.count_at.ensures (search rules) c.count_at-2.ensures (search rules) in
    let (below, low, is) = count_found all 3 (codes "next ") (2 ^ 63) next c.count_at-then-tells_next.result c.count_at-then-tells_next.ensures given in
    subst (λ x. IsHeading all (record { tells_next = x; tick = tick; seed = seed; next = next })) (sym c.if-tells_next.true) (record {
      tick_in_range = so.tick_in_range;
      seed_in_range = so.seed_in_range;
      next_in_range = low;
      greatest = λ e. absurd cc;
      there = omega (arith, below);
      same = next_headed all tick seed next (so.headed next) below is;
    })

pub returns-else-tells_next-clause-heading : goal.returns-else-tells_next-clause-heading
returns-else-tells_next-clause-heading c =
    let all = map (λ (l : Bor (List ℕ)). l.now) c.args.lines.now in
    let first = known c.args.lines.now c.in_ok-tells_next.tells_next c.in_ok-tells_next.ensures.first in
    let so = seeded all false c.in_ok-tells_next.tells_next c.in_ok-tick.tick c.in_ok-seed.seed c.count_at.result c.count_at-2.result c.if-tells_next.false first c.count_at.ensures (search rules) c.count_at-2.ensures (search rules) in
    subst (λ x. IsHeading all (record { tells_next = x; tick = c.in_ok-tick.tick; seed = c.in_ok-seed.seed; next = 2 ^ 63 })) (sym c.if-tells_next.false) (record {
      tick_in_range = so.tick_in_range;
      seed_in_range = so.seed_in_range;
      next_in_range = omega arith;
      greatest = λ e. refl;
      there = omega (arith, so.there);
      same = so.headed (2 ^ 63);
    })
