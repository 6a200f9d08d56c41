-- The numbers of the sites of a program, in the order of the text of its script.
use Rattle.std.specs.Prelude.{ℕ, List, [], ◌∷◌, ◌++◌}
use Rattle.std.specs.Option.{option_to_list}
use Rattle.brace_syntax.specs.declared.tree.MemberTree.{MemberTree}
use Rattle.brace_syntax.specs.declared.tree.MemberTree.TheVariants as m
use Rattle.brace_syntax.specs.declared.tree.ClassTree.{ClassTree}
use Rattle.brace_model.specs.declared.program.State.{State}
use Rattle.brace_model.specs.declared.program.Class.{Class}
use Rattle.brace_model.specs.Sites.{sites_among, die_sites, spawn_sites, query_sites}

-- of the members of a class, which declare these states: each member has the sites of the rule of
-- its state, of the condition, of the `spawn`, or of the query
abbrev pub in_members : List MemberTree → List State → Class → List ℕ
in_members (m.State shared type name rule at ∷ members) (s ∷ states) class =
    sites_among (option_to_list s.rule) ++ in_members members states class
in_members (m.Run block at ∷ members) states class =
    query_sites class ++ in_members members states class
in_members (m.Die condition at ∷ members) states class =
    die_sites class ++ in_members members states class
in_members (m.Spawn condition gifts at ∷ members) states class =
    spawn_sites class ++ in_members members states class
in_members (_ ∷ members) states class = in_members members states class
in_members [] states class = []

-- of classes and what they mean
abbrev pub in_text_order : List ClassTree → List Class → List ℕ
in_text_order (tree ∷ trees) (class ∷ classes) =
    in_members tree.members class.states class ++ in_text_order trees classes
in_text_order _ _ = []
