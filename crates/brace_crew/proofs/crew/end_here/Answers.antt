use Rattle.std.proofs.Common.{◌≡◌, ◌∙◌, sym, ap, subst, ℕ, ◌-◌, ◌<◌, ◌≤◌, ◌==◌, length, get_or, false, arith, eq-eqb, true≢false}
use Rattle.brace_core.proofs.ActorLemmas.{map_kept}
use Rattle.brace_pieces.specs.Steps.{steps}
use Rattle.brace_crew.specs.Members.{course_of, opening_of, HasTold, WasUntold}
use Rattle.brace_crew.proofs.MemberLemmas.{part_told, part_untold}
use Rattle.brace_crew.proofs.RunMembers.{others_set, set_back}
use Rattle.brace_crew.proofs.crew.end_here.Goals as goal

pub returns-clause-told : goal.returns-clause-told
returns-clause-told g c e =
    let ms = c.args.members.now in
    let i : ℕ = length ms - 1 in
    let filled : (length ms == 0) ≡ false = sym c.is_empty.ensures ∙ c.if-is_empty.false in
    let some : length ms ≡ 0 → ⊥ = λ none. true≢false (sym (eq-eqb (length ms) 0 none) ∙ filled) in
    let low : i < length ms = omega (arith, some) in
    others_set HasTold ms i c.ends_here.new.self low (c.ends_here.ensures.told e)
    (λ k d within other. part_told (get_or ms k d) (c.requires.desk_last.are_parts k d (omega (arith, within, other))))

pub returns-clause-untold : goal.returns-clause-untold
returns-clause-untold g c e s n within settings at =
    let ms = c.args.members.now in
    let i : ℕ = length ms - 1 in
    let r = c.index-members-last.result in
    let filled : (length ms == 0) ≡ false = sym c.is_empty.ensures ∙ c.if-is_empty.false in
    let some : length ms ≡ 0 → ⊥ = λ none. true≢false (sym (eq-eqb (length ms) 0 none) ∙ filled) in
    let low : i < length ms = omega (arith, some) in
    let setting = settings i r low in
    let here = c.ends_here.ensures.untold e n (subst (λ q. n ≤ length (steps q)) (sym setting) within) (at i r low) in
    others_set (WasUntold s n) ms i c.ends_here.new.self low (subst (λ q. WasUntold q n c.ends_here.new.self) setting here)
    (λ k d there other. part_untold s n (get_or ms k d) (c.requires.desk_last.are_parts k d (omega (arith, there, other))))

pub returns-clause-same : goal.returns-clause-same
returns-clause-same g c e =
    let ms = c.args.members.now in
    let i : ℕ = length ms - 1 in
    set_back ms i (get_or ms i c.index-members-last.result) c.ends_here.new.self (ap (get_or ms i) c.index-members-last.is) (c.ends_here.ensures.same e)

pub returns-clause-courses : goal.returns-clause-courses
returns-clause-courses g c =
    let ms = c.args.members.now in
    let i : ℕ = length ms - 1 in
    map_kept course_of ms i (get_or ms i c.index-members-last.result) c.ends_here.new.self (ap (get_or ms i) c.index-members-last.is) c.ends_here.ensures.course

pub returns-clause-openings : goal.returns-clause-openings
returns-clause-openings g c =
    let ms = c.args.members.now in
    let i : ℕ = length ms - 1 in
    map_kept opening_of ms i (get_or ms i c.index-members-last.result) c.ends_here.new.self (ap (get_or ms i) c.index-members-last.is) c.ends_here.ensures.opening
