use Rattle.std.proofs.Common.{rules, ap, map, ◌+◌, Some, None}
use Rattle.std.specs.Prelude.{option_map}
use Rattle.std.proofs.lemmas.List.Sorted.{answers_always}
use Rattle.brace_pieces.specs.Together.{with_number}
use Rattle.brace_herd.proofs.CensusJoins.{one_numbered, found_rank, found_none_there}
use Rattle.brace_herd.proofs.census.numbered.Goals as goal

pub loop-child-preserved-in-Continue-branch-2 : goal.loop-child-preserved-in-Continue-branch-2
loop-child-preserved-in-Continue-branch-2 c =
    let parents = c.args.parents.now in
    let child = c.in-Some.child in
    let found = c.in-Ok.ensures.position (λ p. p.id) (answers_always _ _ _ (λ f b r g called. search rules)) in
    let rank = found_rank parents c.requires.rises c.args.next c.in-Ok.rank child.id (record { id = 0; class = 0 }) c.in-Ok.ensures.bound found in
    one_numbered (with_number c.args.next (map (λ p. p.id) parents)) c.loop-child.all.items c.loop-child.born.items c.pop.new.self.items child _ c.in-Some.ensures.items c.loop-child.invariant
    (Some (record child { id = c.args.next + c.in-Ok.rank })) (ap (option_map (λ n. record child { id = n })) rank) c.push.new.self.items c.in_ok-push.ensures.items

pub loop-child-preserved : goal.loop-child-preserved
loop-child-preserved c =
    let parents = c.args.parents.now in
    let child = c.in-Some.child in
    let found = c.in_default-binary_search_by_key.ensures.position (λ p. p.id) (answers_always _ _ _ (λ f b r g called. search rules)) in
    let rank = found_none_there parents c.requires.rises c.args.next c.in_default-binary_search_by_key.field-0 child.id (record { id = 0; class = 0 }) found in
    one_numbered (with_number c.args.next (map (λ p. p.id) parents)) c.loop-child.all.items c.loop-child.born.items c.pop.new.self.items child _ c.in-Some.ensures.items c.loop-child.invariant
    None (ap (option_map (λ n. record child { id = n })) rank) c.loop-child.all.items (search rules)
