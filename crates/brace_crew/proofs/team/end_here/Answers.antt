use Rattle.std.proofs.Common.{◌≡◌, ◌∙◌, sym, ap, subst, ℕ, ◌%◌, ◌<◌, length, get_or, All}
use Rattle.std.proofs.lemmas.Nat.{mod_below}
use Rattle.brace_pieces.specs.Settings.{parts}
use Rattle.brace_crew.specs.Members.{HasTold, WasUntold}
use Rattle.brace_crew.specs.inner.Crews.{HaveDeskLast}
use Rattle.brace_crew.proofs.MemberLemmas.{part_told, part_untold}
use Rattle.brace_crew.proofs.RunMembers.{others_set, set_back}
use Rattle.brace_crew.proofs.TeamLemmas.{team_long, team_settings, others_parts, desk_bench, set_still, set_come}
use Rattle.brace_crew.proofs.team.end_here.Goals as goal

pub ends_here-requires : goal.ends_here-requires
ends_here-requires g c =
    let s = c.args.setting.now in
    let xs = c.args.benches.now in
    let r = c.index-benches-worker.result in
    let (publisher, (workers, team)) = c.requires.team in
    let long = team_long s publisher workers xs team in
    let is : c.parts.result % length xs ≡ parts s % workers = ap (λ n. n % length xs) c.parts.ensures ∙ ap (λ n. parts s % n) long in
    let low : c.parts.result % length xs < length xs = mod_below c.parts.result (length xs) c.requires.some_bench in
    record { desk_last = subst (λ k. HaveDeskLast (get_or xs k r).members) (sym is) (desk_bench s publisher workers xs team r (subst (λ k. k < length xs) is low)) }

pub returns-clause-told : goal.returns-clause-told
returns-clause-told g c e =
    let s = c.args.setting.now in
    let xs = c.args.benches.now in
    let w : ℕ = c.parts.result % length xs in
    let (publisher, (workers, team)) = c.requires.team in
    let is : w ≡ parts s % workers = ap (λ n. n % length xs) c.parts.ensures ∙ ap (λ n. parts s % n) (team_long s publisher workers xs team) in
    others_set (λ b. All HasTold b.members) xs w c.ends_here.new.self (mod_below c.parts.result (length xs) c.requires.some_bench) (c.ends_here.ensures.told e)
    (λ k d within other i m low. part_told (get_or (get_or xs k d).members i m) (others_parts s publisher workers xs team k d within (λ q. other (sym q ∙ sym is)) i m low))

pub returns-clause-untold : goal.returns-clause-untold
returns-clause-untold g c e n within at =
    let s = c.args.setting.now in
    let xs = c.args.benches.now in
    let w : ℕ = c.parts.result % length xs in
    let r = c.index-benches-worker.result in
    let low : w < length xs = mod_below c.parts.result (length xs) c.requires.some_bench in
    let (publisher, (workers, team)) = c.requires.team in
    let is : w ≡ parts s % workers = ap (λ n. n % length xs) c.parts.ensures ∙ ap (λ n. parts s % n) (team_long s publisher workers xs team) in
    others_set (λ b. All (WasUntold s n) b.members) xs w c.ends_here.new.self low
    (c.ends_here.ensures.untold e s n within (team_settings s publisher workers xs team w r low) (at w r low))
    (λ k d there other i m below. part_untold s n (get_or (get_or xs k d).members i m) (others_parts s publisher workers xs team k d there (λ q. other (sym q ∙ sym is)) i m below))

pub returns-clause-same : goal.returns-clause-same
returns-clause-same g c e =
    let xs = c.args.benches.now in
    let w : ℕ = c.parts.result % length xs in
    set_back xs w (get_or xs w c.index-benches-worker.result) c.ends_here.new.self (ap (get_or xs w) c.index-benches-worker.is) (c.ends_here.ensures.same e)

pub returns-clause-still : goal.returns-clause-still
returns-clause-still g c =
    let xs = c.args.benches.now in
    let w : ℕ = c.parts.result % length xs in
    let asked = c.ends_here.ensures in
    set_still xs w (get_or xs w c.index-benches-worker.result) c.ends_here.new.self (mod_below c.parts.result (length xs) c.requires.some_bench) (ap (get_or xs w) c.index-benches-worker.is)
    asked.courses asked.openings asked.lanes asked.seat

pub returns-clause-come : goal.returns-clause-come
returns-clause-come g c n come =
    let xs = c.args.benches.now in
    let w : ℕ = c.parts.result % length xs in
    let asked = c.ends_here.ensures in
    set_come xs w (get_or xs w c.index-benches-worker.result) c.ends_here.new.self (mod_below c.parts.result (length xs) c.requires.some_bench) (ap (get_or xs w) c.index-benches-worker.is)
    n asked.courses asked.seat come
