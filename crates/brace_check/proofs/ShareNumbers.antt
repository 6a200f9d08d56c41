-- The sites of a class rise, differ, and follow the order of the text; its loops stand apart.
use Rattle.std.proofs.Common.{◌≡◌, refl, sym, ap, subst, ◌∙◌, ℕ, ◌+◌, ◌≤◌, List, [], ◌∷◌, ◌++◌, map, flat_map, length, append_assoc, arith, zero, suc, ◌<◌, nat_lt, Bool, true, false, tests, inl, inr, codes, take}
use Rattle.std.specs.Prelude.{Option, Some, None, option_to_list, nat_eq, cond, slice_get, unwrap_or, false}
use Rattle.std.specs.List.{range_with_len, AllByRecursion, IsDistinct, list_all, concat}
use Rattle.std.proofs.lemmas.List.{append-nil}
use Rattle.std.proofs.lemmas.Grind.{flat_map-append}
use Rattle.brace_syntax.specs.declared.tree.ExprTree.{ExprTree}
use Rattle.brace_syntax.specs.declared.tree.GiftTree.{GiftTree}
use Rattle.brace_syntax.specs.declared.tree.MemberTree.{MemberTree}
use Rattle.brace_syntax.specs.declared.tree.MemberTree.TheVariants as m
use Rattle.brace_model.specs.declared.program.Expr.{Expr}
use Rattle.brace_model.specs.declared.program.Stmt.{Stmt}
use Rattle.brace_model.specs.declared.program.State.{State}
use Rattle.brace_model.specs.declared.program.Gift.{Gift}
use Rattle.brace_model.specs.declared.program.Spawn.{Spawn}
use Rattle.brace_model.specs.Sites.{sites_of, sites_among, sites_of_spawn, class_sites, loop_offsets}
use Rattle.brace_check.specs.declared.share.Share.{Share}
use Rattle.brace_check.specs.Programs.{rule, gifts_in, spawn_of, share, shared_by, shares, class_of, classes_from}
use Rattle.brace_check.proofs.Numbering.{Rises, rises-joined, front_rises, back_rises, rises_behind, rising_differ, Numbered, upto, one_site, plain_numbered, made_numbered, followed_numbered, expression_numbered, block_sites, block_numbers, concat-map, loops_step, loops, loops_in}
use Rattle.brace_names.specs.Tables.{look}
use Rattle.brace_names.specs.Scopes.{Home, Scope, outermost, home_of}
use Rattle.brace_check.specs.Meanings.{site, number_of, followed, expression}
use Rattle.std.proofs.lemmas.Bool.{cases_Bool, cases_lt, and_from, true≢false}
use Rattle.brace_syntax.specs.declared.tree.ClassTree.{ClassTree}
use Rattle.brace_names.specs.Classes.{Known, title}
use Rattle.brace_model.specs.declared.program.Class.{Class}
use Rattle.std.specs.Str.{bytes_eq}
use Rattle.brace_syntax.specs.declared.tree.StmtTree.{StmtTree}
use Rattle.brace_check.specs.Order.{in_members, in_text_order}
use Rattle.brace_check.proofs.FieldNumbers.{Apart, text}
use Rattle.std.proofs.Math.Seq.{take-append_seam}
use Rattle.brace_tok.specs.declared.kinds.Token.{Token}
use Rattle.brace_tok.specs.Spells.{Spells}
use Rattle.brace_tok.proofs.Unique.{spells_rises}
use Rattle.brace_syntax.specs.Reads as r
use Rattle.brace_syntax.specs.Reads.{ReadsStmt, ReadsStmts, ReadsBlock, ReadsField, ReadsMember, ReadsMembers, ReadsClass, ReadsClasses}
use Rattle.brace_syntax.specs.Tables.{ident}
use Rattle.brace_names.proofs.NameOrder.{Sub, none, skip, keep, nowhere, join, places_rise}
use Rattle.brace_names.proofs.Folds.{of-Const, of-when, of-either, of-Foreach, of-Assign, of-AssignThis, of-AssignLoop}

-- the sites of the parts of a class
abbrev pub ruled_sites : List State → List ℕ
ruled_sites states = sites_among (flat_map (λ s. option_to_list s.rule) states)

abbrev pub asked_sites : List Expr → List ℕ
asked_sites conditions = flat_map sites_of conditions

abbrev pub born_sites : List Spawn → List ℕ
born_sites spawns = flat_map sites_of_spawn spawns

abbrev pub asking_sites : List (List Stmt) → List ℕ
asking_sites queries = flat_map block_sites queries

-- all of them
abbrev pub own_sites : Share → List ℕ
own_sites s = ruled_sites s.states ++ (asked_sites s.die ++ (born_sites s.spawn ++ asking_sites s.queries))

-- each of them rises between bounds
pub record SharesRise (s : Share) (lo hi : ℕ) : Type 0 where
  pub rules : Rises lo hi (ruled_sites s.states)
  pub dies : Rises lo hi (asked_sites s.die)
  pub spawns : Rises lo hi (born_sites s.spawn)
  pub queries : Rises lo hi (asking_sites s.queries)

-- the rules of two lists of states
pub ruled-append : (xs ys : List State) → ruled_sites (xs ++ ys) ≡ ruled_sites xs ++ ruled_sites ys
ruled-append xs ys =
    ap sites_among (flat_map-append (λ s. option_to_list s.rule) xs ys)
    ∙ flat_map-append sites_of (flat_map (λ s. option_to_list s.rule) xs) (flat_map (λ s. option_to_list s.rule) ys)

both_rise : (a b : Share) (lo mid hi : ℕ) → SharesRise a lo mid → SharesRise b mid hi → SharesRise (shared_by a b) lo hi
both_rise a b lo mid hi ha hb = record {
  rules = subst (Rises lo hi) (sym (ruled-append a.states b.states)) (rises-joined lo mid hi (ruled_sites a.states) (ruled_sites b.states) ha.rules hb.rules);
  dies = subst (Rises lo hi) (sym (flat_map-append sites_of a.die b.die)) (rises-joined lo mid hi (asked_sites a.die) (asked_sites b.die) ha.dies hb.dies);
  spawns = subst (Rises lo hi) (sym (flat_map-append sites_of_spawn a.spawn b.spawn)) (rises-joined lo mid hi (born_sites a.spawn) (born_sites b.spawn) ha.spawns hb.spawns);
  queries = subst (Rises lo hi) (sym (flat_map-append block_sites a.queries b.queries)) (rises-joined lo mid hi (asking_sites a.queries) (asking_sites b.queries) ha.queries hb.queries);
}

abbrev rule_sites_of : Option Expr → List ℕ
rule_sites_of r = sites_among (option_to_list r)

rule_numbered : (x : Option ExprTree) (scope : Scope) → Numbered rule_sites_of (rule x scope)
rule_numbered None scope = plain_numbered rule_sites_of None refl
rule_numbered (Some x) scope =
    made_numbered sites_of rule_sites_of (λ e. Some e) (expression x scope) (λ e. append-nil (sites_of e)) (expression_numbered x scope)

abbrev gift_sites : List Gift → List ℕ
gift_sites gifts = sites_among (map (λ g. g.value) gifts)

gifts_numbered : (gifts : List GiftTree) (scope : Scope) → Numbered gift_sites (gifts_in gifts scope)
gifts_numbered [] scope = plain_numbered gift_sites [] refl
gifts_numbered (g ∷ gifts) scope =
    followed_numbered sites_of gift_sites gift_sites (λ (e : Expr) (rest : List Gift). record { state = number_of (look scope.home.own g.state.text); value = e } ∷ rest)
    (expression g.value scope) (gifts_in gifts scope) (λ e rest. refl) (expression_numbered g.value scope) (gifts_numbered gifts scope)

abbrev inner_sites : Expr × List Gift → List ℕ
inner_sites p = sites_of p.0 ++ gift_sites p.1

spawn_numbered : (condition : ExprTree) (gifts : List GiftTree) (at : ℕ) (scope : Scope) → Numbered sites_of_spawn (spawn_of condition gifts at scope)
spawn_numbered condition gifts at scope =
    followed_numbered inner_sites (λ (n : ℕ). n ∷ []) sites_of_spawn
    (λ (inner : Expr × List Gift) n. record { when = inner.0; gifts = inner.1; site = n })
    (followed (λ e given. (e, given)) (expression condition scope) (gifts_in gifts scope)) (site at)
    (λ inner n. sym (append_assoc (sites_of inner.0) (gift_sites inner.1) (n ∷ [])))
    (followed_numbered sites_of gift_sites inner_sites (λ e given. (e, given)) (expression condition scope) (gifts_in gifts scope)
    (λ e given. refl) (expression_numbered condition scope) (gifts_numbered gifts scope))
    (one_site at)

-- the sites of one member are numbered in finishing order
pub share_numbered : (home : Home) (x : MemberTree) → Numbered own_sites (share home x)
share_numbered home (m.State shared type name x at) k =
    ap (λ (l : List ℕ). upto k ++ l) (append-nil _ ∙ ap sites_among (append-nil (option_to_list (rule x (outermost home false) k).0))) ∙ rule_numbered x (outermost home false) k
share_numbered home (m.Run statements at) k = ap (λ (l : List ℕ). upto k ++ l) (append-nil _) ∙ (block_numbers statements).numbered (outermost home true) k
share_numbered home (m.Die condition at) k = ap (λ (l : List ℕ). upto k ++ l) (append-nil _ ∙ append-nil _) ∙ expression_numbered condition (outermost home false) k
share_numbered home (m.Spawn condition gifts at) k = ap (λ (l : List ℕ). upto k ++ l) (append-nil _ ∙ append-nil _) ∙ spawn_numbered condition gifts at (outermost home false) k
share_numbered home _ k = append-nil (upto k)

-- so they rise
share_rises : (home : Home) (x : MemberTree) (k : List ℕ) → SharesRise (share home x k).0 (length k) (length (share home x k).1)
share_rises home x k =
    let s : Share = (share home x k).0 in
    let lo : ℕ = length k in
    let hi : ℕ = length (share home x k).1 in
    let rules : List ℕ = ruled_sites s.states in
    let dies : List ℕ = asked_sites s.die in
    let spawns : List ℕ = born_sites s.spawn in
    let queries : List ℕ = asking_sites s.queries in
    let all : Rises lo hi (rules ++ (dies ++ (spawns ++ queries))) = rises_behind lo hi (own_sites s) (share_numbered home x k) in
    let most : Rises lo hi (dies ++ (spawns ++ queries)) = back_rises lo hi rules (dies ++ (spawns ++ queries)) all in
    let last : Rises lo hi (spawns ++ queries) = back_rises lo hi dies (spawns ++ queries) most in
    record {
      rules = front_rises lo hi rules (dies ++ (spawns ++ queries)) all;
      dies = front_rises lo hi dies (spawns ++ queries) most;
      spawns = front_rises lo hi spawns queries last;
      queries = back_rises lo hi spawns queries last;
    }

-- and those of the members of a class
pub shares_rise : (home : Home) (members : List MemberTree) (k : List ℕ) → SharesRise (shares home members k).0 (length k) (length (shares home members k).1)
shares_rise home [] k = record { rules = omega arith; dies = omega arith; spawns = omega arith; queries = omega arith }
shares_rise home (member ∷ members) k =
    let a : Share × List ℕ = share home member k in
    let b : Share × List ℕ = shares home members a.1 in
    both_rise a.0 b.0 (length k) (length a.1) (length b.1) (share_rises home member k) (shares_rise home members a.1)

-- how often a number stands in a place, and in a list
abbrev here : ℕ → ℕ → ℕ
here x y = cond (nat_eq x y) 1 0

times : ℕ → List ℕ → ℕ
times x [] = 0
times x (y ∷ ys) = here x y + times x ys

times-append : (x : ℕ) (xs ys : List ℕ) → times x (xs ++ ys) ≡ times x xs + times x ys
unfolding times
times-append x [] ys = let none : times x ys ≡ 0 + times x ys = omega arith in none
times-append x (y ∷ xs) ys =
    let rest : times x (xs ++ ys) ≡ times x xs + times x ys = times-append x xs ys in
    let total : here x y + times x (xs ++ ys) ≡ (here x y + times x xs) + times x ys = omega (arith, rest) in
    total

-- numbers in turn have each once, and none below the first of them or past the last
record Once (n c x many : ℕ) : Type 0 where
  low : x < n → many ≡ 0
  past : n + c ≤ x → many ≡ 0
  once : many ≤ 1

times-range : (n c x : ℕ) → Once n c x (times x (range_with_len n c))
unfolding times
times-range n zero x = record { low = λ h. refl; past = λ h. refl; once = omega arith }
times-range n (suc c) x =
    let many : ℕ = times x (range_with_len (n + 1) c) in
    let r : Once (n + 1) c x many = times-range (n + 1) c x in
    elim (cases_Bool (nat_eq x n)) [
      | inl same ↦
          let e : x ≡ n = grind (arith, tests) in
          let one : here x n ≡ 1 = ap (λ (b : Bool). cond b 1 0) same in
          let rest : many ≡ 0 = r.low (omega (arith, e)) in
          let total : here x n + many ≤ 1 = omega (arith, one, rest) in
          record { low = λ (h : x < n). absurd (omega (arith, e, h)); past = λ (h : n + suc c ≤ x). absurd (omega (arith, e, h)); once = total }
      | inr apart ↦
          let none : here x n ≡ 0 = ap (λ (b : Bool). cond b 1 0) apart in
          let few : many ≤ 1 = r.once in
          let total : here x n + many ≤ 1 = omega (arith, none, few) in
          let nowhere : many ≡ 0 → here x n + many ≡ 0 = λ (h : many ≡ 0). omega (arith, none, h) in
          record { low = λ (h : x < n). nowhere (r.low (omega (arith, h))); past = λ (h : n + suc c ≤ x). nowhere (r.past (omega (arith, h))); once = total }
    ]

times-four : (x : ℕ) (a b c d : List ℕ) → times x (a ++ (b ++ (c ++ d))) ≡ times x a + (times x b + (times x c + times x d))
times-four x a b c d =
    let p : times x (a ++ (b ++ (c ++ d))) ≡ times x a + times x (b ++ (c ++ d)) = times-append x a (b ++ (c ++ d)) in
    let q : times x (b ++ (c ++ d)) ≡ times x b + times x (c ++ d) = times-append x b (c ++ d) in
    let r : times x (c ++ d) ≡ times x c + times x d = times-append x c d in
    omega (arith, p, q, r)

-- how often a number is a site of a share
abbrev total_times : ℕ → Share → ℕ
total_times x s = times x (ruled_sites s.states) + (times x (asked_sites s.die) + (times x (born_sites s.spawn) + times x (asking_sites s.queries)))

total-shared : (x : ℕ) (a b : Share) → total_times x (shared_by a b) ≡ total_times x a + total_times x b
total-shared x a b =
    let p : times x (ruled_sites (a.states ++ b.states)) ≡ times x (ruled_sites a.states) + times x (ruled_sites b.states) =
    ap (times x) (ruled-append a.states b.states) ∙ times-append x (ruled_sites a.states) (ruled_sites b.states) in
    let q : times x (asked_sites (a.die ++ b.die)) ≡ times x (asked_sites a.die) + times x (asked_sites b.die) =
    ap (times x) (flat_map-append sites_of a.die b.die) ∙ times-append x (asked_sites a.die) (asked_sites b.die) in
    let r : times x (born_sites (a.spawn ++ b.spawn)) ≡ times x (born_sites a.spawn) + times x (born_sites b.spawn) =
    ap (times x) (flat_map-append sites_of_spawn a.spawn b.spawn) ∙ times-append x (born_sites a.spawn) (born_sites b.spawn) in
    let s : times x (asking_sites (a.queries ++ b.queries)) ≡ times x (asking_sites a.queries) + times x (asking_sites b.queries) =
    ap (times x) (flat_map-append block_sites a.queries b.queries) ∙ times-append x (asking_sites a.queries) (asking_sites b.queries) in
    omega (arith, p, q, r, s)

-- the members of a class have the sites that are numbered for them
members_times : (home : Home) (x : ℕ) (members : List MemberTree) (k : List ℕ)
    → times x (upto k) + total_times x (shares home members k).0 ≡ times x (upto (shares home members k).1)
unfolding times
members_times home x [] k = let none : times x (upto k) + (0 + (0 + (0 + 0))) ≡ times x (upto k) = omega arith in none
members_times home x (one ∷ members) k =
    let a : Share × List ℕ = share home one k in
    let b : Share × List ℕ = shares home members a.1 in
    let s : Share = a.0 in
    let four : times x (own_sites s) ≡ total_times x s = times-four x (ruled_sites s.states) (asked_sites s.die) (born_sites s.spawn) (asking_sites s.queries) in
    let first : times x (upto k) + times x (own_sites s) ≡ times x (upto a.1) = sym (times-append x (upto k) (own_sites s)) ∙ ap (times x) (share_numbered home one k) in
    let rest : times x (upto a.1) + total_times x b.0 ≡ times x (upto b.1) = members_times home x members a.1 in
    let whole : total_times x (shared_by s b.0) ≡ total_times x s + total_times x b.0 = total-shared x s b.0 in
    let sum : times x (upto k) + total_times x (shared_by s b.0) ≡ times x (upto b.1) = omega (arith, four, first, rest, whole) in
    sum

-- the first of some things has no more
module _ {A : Type 0} (f : A → List ℕ) (x : ℕ) where
  first_times : (xs : List A) → times x (flat_map f (option_to_list (slice_get xs 0))) ≤ times x (flat_map f xs)
  first_times [] = omega arith
  first_times (y ∷ ys) =
      let whole : times x (f y ++ flat_map f ys) ≡ times x (f y) + times x (flat_map f ys) = times-append x (f y) (flat_map f ys) in
      let front : times x (f y ++ []) ≡ times x (f y) = ap (times x) (append-nil (f y)) in
      let total : times x (f y ++ []) ≤ times x (f y ++ flat_map f ys) = omega (arith, whole, front) in
      total

first_query_times : (x : ℕ) (queries : List (List Stmt)) → times x (block_sites (unwrap_or (slice_get queries 0) [])) ≤ times x (asking_sites queries)
first_query_times x [] = omega arith
first_query_times x (y ∷ ys) =
    let whole : times x (block_sites y ++ asking_sites ys) ≡ times x (block_sites y) + times x (asking_sites ys) = times-append x (block_sites y) (asking_sites ys) in
    let total : times x (block_sites y) ≤ times x (block_sites y ++ asking_sites ys) = omega (arith, whole) in
    total

module _ (all : Known) (x : ℕ) where
  class_under : (home : Home) (class : ClassTree) (k : List ℕ) → times x (upto k) + times x (class_sites (class_of home class k).0) ≤ times x (upto (class_of home class k).1)
  class_under home class k =
      let s : Share = (shares home class.members k).0 in
      let rules : List ℕ = ruled_sites s.states in
      let dies : List ℕ = sites_among (option_to_list (slice_get s.die 0)) in
      let spawns : List ℕ = flat_map sites_of_spawn (option_to_list (slice_get s.spawn 0)) in
      let query : List ℕ = block_sites (unwrap_or (slice_get s.queries 0) []) in
      let p : times x (rules ++ (dies ++ (spawns ++ query))) ≡ times x rules + (times x dies + (times x spawns + times x query)) = times-four x rules dies spawns query in
      let d : times x dies ≤ times x (asked_sites s.die) = first_times sites_of x s.die in
      let b : times x spawns ≤ times x (born_sites s.spawn) = first_times sites_of_spawn x s.spawn in
      let q : times x query ≤ times x (asking_sites s.queries) = first_query_times x s.queries in
      let whole : times x (upto k) + total_times x s ≡ times x (upto (shares home class.members k).1) = members_times home x class.members k in
      omega (arith, p, d, b, q, whole)

  classes_under : (number : ℕ) (classes : List ClassTree) (k : List ℕ)
      → times x (upto k) + times x (flat_map class_sites (classes_from all number classes k).0) ≤ times x (upto (classes_from all number classes k).1)
  unfolding times
  classes_under number [] k = let none : times x (upto k) + 0 ≤ times x (upto k) = omega arith in none
  classes_under number (class ∷ classes) k =
      let home : Home = home_of all number class in
      let a : Class × List ℕ = class_of home class k in
      let b : List Class × List ℕ = classes_from all (number + 1) classes a.1 in
      let first : times x (upto k) + times x (class_sites a.0) ≤ times x (upto a.1) = class_under home class k in
      let rest : times x (upto a.1) + times x (flat_map class_sites b.0) ≤ times x (upto b.1) = classes_under (number + 1) classes a.1 in
      let whole : times x (class_sites a.0 ++ flat_map class_sites b.0) ≡ times x (class_sites a.0) + times x (flat_map class_sites b.0) =
      times-append x (class_sites a.0) (flat_map class_sites b.0) in
      omega (arith, first, rest, whole)

-- what stands nowhere in a list is apart from each of it
not_in : (x : ℕ) (ys : List ℕ) → times x ys ≡ 0 → AllByRecursion (λ y. nat_eq x y ≡ false) ys
unfolding times
not_in x [] h = tt
not_in x (y ∷ ys) h = elim (cases_Bool (nat_eq x y)) [
  | inl same ↦ let some : 1 + times x ys ≡ 0 = subst (λ (b : Bool). cond b 1 0 + times x ys ≡ 0) same h in absurd (omega (arith, some))
  | inr apart ↦ let rest : 0 + times x ys ≡ 0 = subst (λ (b : Bool). cond b 1 0 + times x ys ≡ 0) apart h in (apart, not_in x ys (omega (arith, rest)))
]

less_behind : (x y : ℕ) (ys : List ℕ) → times x ys ≤ times x (y ∷ ys)
unfolding times
less_behind x y ys = let h : times x ys ≤ here x y + times x ys = omega arith in h

one_more : (x : ℕ) (xs : List ℕ) → times x (x ∷ xs) ≡ 1 + times x xs
unfolding times
one_more x xs = let self : nat_eq x x ≡ true = grind arith in ap (λ (b : Bool). cond b 1 0 + times x xs) self

-- numbers of which each stands once differ
differ : (xs : List ℕ) → ((x : ℕ) → times x xs ≤ 1) → IsDistinct nat_eq xs
unfolding IsDistinct
differ [] h = tt
differ (x ∷ xs) h =
    let one : times x (x ∷ xs) ≤ 1 = h x in
    let more : times x (x ∷ xs) ≡ 1 + times x xs = one_more x xs in
    let none : times x xs ≡ 0 = omega (arith, one, more) in
    (not_in x xs none, differ xs (λ y. let once : times y (x ∷ xs) ≤ 1 = h y in let less : times y xs ≤ times y (x ∷ xs) = less_behind y x xs in omega (arith, once, less)))

-- and those that do not stand at a bound or above it are below it
below : (bound : ℕ) (xs : List ℕ) → ((x : ℕ) → bound ≤ x → times x xs ≡ 0) → list_all (λ x. nat_lt x bound) xs ≡ true
below bound [] h = refl
below bound (x ∷ xs) h =
    let rest : list_all (λ x. nat_lt x bound) xs ≡ true =
    below bound xs (λ y past. let none : times y (x ∷ xs) ≡ 0 = h y past in let less : times y xs ≤ times y (x ∷ xs) = less_behind y x xs in omega (arith, none, less)) in
    and_from (nat_lt x bound) (list_all (λ x. nat_lt x bound) xs) (elim (cases_lt x bound) [
      | inl under ↦ grind (arith, tests)
      | inr past ↦
          let none : times x (x ∷ xs) ≡ 0 = h x past in
          let more : times x (x ∷ xs) ≡ 1 + times x xs = one_more x xs in
          absurd (omega (arith, none, more))
    ]) rest

module _ (all : Known) (classes : List ClassTree) where
  abbrev meant : List Class × List ℕ
  meant = classes_from all 0 classes []

  abbrev sites_all : List ℕ
  sites_all = flat_map class_sites meant.0

  under : (x : ℕ) → times x sites_all ≤ times x (upto meant.1)
  under x = let h : times x (upto []) + times x sites_all ≤ times x (upto meant.1) = classes_under all x 0 classes [] in omega (arith, h)

  pub sites_differ : IsDistinct nat_eq sites_all
  sites_differ = differ sites_all (λ x.
      let few : times x sites_all ≤ times x (upto meant.1) = under x in
      let once : times x (upto meant.1) ≤ 1 = (times-range 0 (length meant.1) x).once in
      omega (arith, few, once))

  pub sites_below : (bound : ℕ) → length meant.1 ≤ bound → list_all (λ x. nat_lt x bound) sites_all ≡ true
  sites_below bound few = below bound sites_all (λ x past.
      let no_more : times x sites_all ≤ times x (upto meant.1) = under x in
      let none : times x (upto meant.1) ≡ 0 = (times-range 0 (length meant.1) x).past (omega (arith, few, past)) in
      omega (arith, no_more, none))

abbrev titles : List MemberTree → List (List ℕ)
titles xs = map text (map title xs)

-- what a class has once, no other member has
module _ (home : Home) where
  abbrev share_at : List MemberTree → List ℕ → Share
  share_at xs n = (shares home xs n).0

  no_die : (xs : List MemberTree) (n : List ℕ) → Apart (codes "die") (titles xs) → (share_at xs n).die ≡ []
  no_die [] n h = refl
  no_die (m.Die x at ∷ xs) n h = absurd (true≢false h.0)
  no_die (one ∷ xs) n h = no_die xs (share home one n).1 h.1

  no_spawn : (xs : List MemberTree) (n : List ℕ) → Apart (codes "spawn") (titles xs) → (share_at xs n).spawn ≡ []
  no_spawn [] n h = refl
  no_spawn (m.Spawn x gifts at ∷ xs) n h = absurd (true≢false h.0)
  no_spawn (one ∷ xs) n h = no_spawn xs (share home one n).1 h.1

  no_query : (xs : List MemberTree) (n : List ℕ) → Apart (codes "run") (titles xs) → (share_at xs n).queries ≡ []
  no_query [] n h = refl
  no_query (m.Run block at ∷ xs) n h = absurd (true≢false h.0)
  no_query (one ∷ xs) n h = no_query xs (share home one n).1 h.1

  module _ (class : Class) where
    -- what these members have of it is what the class has
    abbrev Has : Share → Type 0
    Has s =
        ((x : Expr) (xs : List Expr) → s.die ≡ x ∷ xs → class.die ≡ Some x)
        × ((x : Spawn) (xs : List Spawn) → s.spawn ≡ x ∷ xs → class.spawn ≡ Some x)
        × ((x : List Stmt) (xs : List (List Stmt)) → s.queries ≡ x ∷ xs → class.query ≡ x)

    -- one member, then the rest of the class
    member_more : (x : MemberTree) (xs : List MemberTree) (n mine rest : List ℕ)
        → mine ≡ own_sites (share home x n).0
        → upto (share home x n).1 ++ rest ≡ upto (shares home (x ∷ xs) n).1
        → upto n ++ (mine ++ rest) ≡ upto (shares home (x ∷ xs) n).1
    member_more x xs n mine rest h g =
        ap (λ (l : List ℕ). upto n ++ (l ++ rest)) h
        ∙ (sym (append_assoc (upto n) (own_sites (share home x n).0) rest) ∙ (ap (λ (l : List ℕ). l ++ rest) (share_numbered home x n) ∙ g))

    members_in_order : (xs : List MemberTree) (n : List ℕ) → IsDistinct bytes_eq (titles xs) → Has (share_at xs n)
        → upto n ++ in_members xs (share_at xs n).states class ≡ upto (shares home xs n).1
    unfolding IsDistinct
    members_in_order [] n h has = append-nil (upto n)
    members_in_order (m.State shared type name x at ∷ xs) n h has =
        member_more (m.State shared type name x at) xs n _ _
        (sym (append-nil _ ∙ ap sites_among (append-nil _))) (members_in_order xs _ h.1 has)
    members_in_order (m.Die x at ∷ xs) n h has =
        let none = no_die xs (share home (m.Die x at) n).1 h.0 in
        member_more (m.Die x at) xs n _ _
        (ap (λ (o : Option Expr). sites_among (option_to_list o)) (has.0 _ _ refl)
        ∙ sym (append-nil _)) (members_in_order xs _ h.1 (λ y ys e. absurd (cc), has.1, has.2))
    members_in_order (m.Spawn x gifts at ∷ xs) n h has =
        let none = no_spawn xs (share home (m.Spawn x gifts at) n).1 h.0 in
        member_more (m.Spawn x gifts at) xs n _ _
        (ap (λ (o : Option Spawn). flat_map sites_of_spawn (option_to_list o)) (has.1 _ _ refl)
        ∙ sym (append-nil _)) (members_in_order xs _ h.1 (has.0, λ y ys e. absurd (cc), has.2))
    members_in_order (m.Run block at ∷ xs) n h has =
        let none = no_query xs (share home (m.Run block at) n).1 h.0 in
        member_more (m.Run block at) xs n _ _ (ap block_sites (has.2 _ _ refl) ∙ sym (append-nil _))
        (members_in_order xs _ h.1 (has.0, has.1, λ y ys e. absurd (cc)))
    members_in_order (one ∷ xs) n h has =
        member_more one xs n [] _ refl (members_in_order xs (share home one n).1 h.1 has)

-- a class, and classes
class_in_order : (home : Home) (tree : ClassTree) (n : List ℕ) → IsDistinct bytes_eq (titles tree.members)
    → upto n ++ in_members tree.members (class_of home tree n).0.states (class_of home tree n).0 ≡ upto (class_of home tree n).1
class_in_order home tree n h =
    members_in_order home (class_of home tree n).0 tree.members n h (
      λ x xs e. ap (λ (l : List Expr). slice_get l 0) e,
      λ x xs e. ap (λ (l : List Spawn). slice_get l 0) e,
      λ x xs e. ap (λ (l : List (List Stmt)). unwrap_or (slice_get l 0) []) e,
    )

pub classes_in_order : (all : Known) (number : ℕ) (trees : List ClassTree) (n : List ℕ) → AllByRecursion (λ (tree : ClassTree). IsDistinct bytes_eq (titles tree.members)) trees
    → upto n ++ in_text_order trees (classes_from all number trees n).0 ≡ upto (classes_from all number trees n).1
classes_in_order all number [] n h = append-nil (upto n)
classes_in_order all number (tree ∷ trees) n h =
    let one : Class × List ℕ = class_of (home_of all number tree) tree n in
    let rest : List Class = (classes_from all (number + 1) trees one.1).0 in
    sym (append_assoc (upto n) (in_members tree.members one.0.states one.0) (in_text_order trees rest))
    ∙ (ap (λ (l : List ℕ). l ++ in_text_order trees rest) (class_in_order (home_of all number tree) tree n h.0) ∙ classes_in_order all (number + 1) trees one.1 h.1)

-- they stand at tokens, in the order of these
pad : (xs : List ℕ) (a b : List Token) → Sub xs a → Sub xs (a ++ b)
pad xs a b h = subst (λ (l : List ℕ). Sub l (a ++ b)) (append-nil xs) (join xs [] a b h (nowhere b))

before : (xs : List ℕ) (a b : List Token) → Sub xs b → Sub xs (a ++ b)
before xs [] b h = h
before xs (tok ∷ a) b h = skip tok xs (a ++ b) (before xs a b h)

module _ (src : List ℕ) where
  mutual
    at_statement : (toks : List Token) (x : StmtTree) → ReadsStmt src toks x → Sub (loops x) toks
    at_statement toks _ (r.const a word type name equals semicolon t x _ _ _ _ _ _) =
        subst (λ (l : List ℕ). Sub l toks) (sym (of-Const loops_step t (ident src name) x word.from)) (nowhere toks)
    at_statement toks _ (r.when a b word opening closing x xs _ _ _ _ g) =
        subst (λ (l : List ℕ). Sub l toks) (sym (of-when loops_step x xs word.from ∙ concat-map loops xs))
        (skip word _ _ (skip opening _ _ (before (loops_in xs) a (closing ∷ b) (skip closing _ b (at_block b xs g)))))
    at_statement toks _ (r.either_way a b c word opening closing otherwise x xs ys _ _ _ _ _ g e) =
        subst (λ (l : List ℕ). Sub l toks)
        (sym (of-either loops_step x xs ys word.from
        ∙ (ap (λ (l : List ℕ). l ++ concat (map loops ys)) (concat-map loops xs) ∙ ap (λ (l : List ℕ). loops_in xs ++ l) (concat-map loops ys))))
        (skip word _ _ (skip opening _ _ (join (loops_in xs) (loops_in ys) (a ++ closing ∷ b) (otherwise ∷ c)
        (before (loops_in xs) a (closing ∷ b) (skip closing _ b (at_block b xs g))) (skip otherwise _ c (at_block c ys e)))))
    at_statement toks _ (r.foreach a word opening class variable colon extent less other greater closing xs _ _ _ _ _ _ _ _ _ _ g) =
        subst (λ (l : List ℕ). Sub l toks) (sym (of-Foreach loops_step (ident src class) (ident src variable) (ident src other) xs word.from ∙ ap (λ (l : List ℕ). word.from ∷ l) (concat-map loops xs)))
        (keep word _ _ (before (loops_in xs) (opening ∷ class ∷ variable ∷ colon ∷ extent ∷ less ∷ other ∷ greater ∷ closing ∷ []) a (at_block a xs g)))
    at_statement toks _ (r.assign_this a this dot name arrow semicolon x _ _ _ _ _ _) =
        subst (λ (l : List ℕ). Sub l toks) (sym (of-AssignThis loops_step (ident src name) x this.from)) (nowhere toks)
    at_statement toks _ (r.assign a name arrow semicolon x _ _ _ _) =
        subst (λ (l : List ℕ). Sub l toks) (sym (of-Assign loops_step (ident src name) x)) (nowhere toks)
    at_statement toks _ (r.assign_loop a loop dot name arrow semicolon x _ _ _ _ _ _) =
        subst (λ (l : List ℕ). Sub l toks) (sym (of-AssignLoop loops_step (ident src loop) (ident src name) x)) (nowhere toks)

    at_statements : (toks : List Token) (xs : List StmtTree) → ReadsStmts src toks xs → Sub (loops_in xs) toks
    at_statements _ _ r.none = none
    at_statements _ _ (r.more a b x xs h g) = join (loops x) (loops_in xs) a b (at_statement a x h) (at_statements b xs g)

    at_block : (toks : List Token) (xs : List StmtTree) → ReadsBlock src toks xs → Sub (loops_in xs) toks
    at_block _ _ (r.braced a opening closing xs _ _ h) = skip opening _ _ (pad (loops_in xs) a (closing ∷ []) (at_statements a xs h))

-- the loops of the queries of members
abbrev query_loops : List (List Stmt) → List ℕ
query_loops = flat_map (λ (query : List Stmt). flat_map loop_offsets query)

module _ (src : List ℕ) where
  abbrev member_queries : Home → MemberTree → List ℕ → List (List Stmt)
  member_queries home x n = (share home x n).0.queries

  at_field : (home : Home) (shared : Bool) (at : ℕ) (toks : List Token) (x : MemberTree) (n : List ℕ) → ReadsField src shared at toks x → Sub (query_loops (member_queries home x n)) toks
  at_field home shared at toks _ n (r.state word type name semicolon t _ _ _ _) = nowhere toks
  at_field home shared at toks _ n _ = nowhere toks

  at_member : (home : Home) (toks : List Token) (x : MemberTree) (n : List ℕ) → ReadsMember src toks x → Sub (query_loops (member_queries home x n)) toks
  at_member home toks _ n (r.public a word x _ h) = skip word _ a (at_field home true word.from a x n h)
  at_member home toks _ n (r.private a word x _ h) = skip word _ a (at_field home false word.from a x n h)
  at_member home toks _ n (r.run a word void run opening closing xs _ _ _ _ _ h) =
      subst (λ (l : List ℕ). Sub l toks) (sym (append-nil _ ∙ (block_numbers xs).loops_are (outermost home true) n))
      (before (loops_in xs) (word ∷ void ∷ run ∷ opening ∷ closing ∷ []) a (at_block src a xs h))
  at_member home toks _ n _ = nowhere toks

  at_members : (home : Home) (toks : List Token) (xs : List MemberTree) (n : List ℕ) → ReadsMembers src toks xs → Sub (query_loops (shares home xs n).0.queries) toks
  at_members home _ _ n r.none = none
  at_members home _ _ n (r.more a b x xs h g) =
      let k : List ℕ = (share home x n).1 in
      let one : List (List Stmt) = member_queries home x n in
      let rest : List (List Stmt) = (shares home xs k).0.queries in
      subst (λ (l : List ℕ). Sub l (a ++ b)) (sym (flat_map-append (λ (query : List Stmt). flat_map loop_offsets query) one rest))
      (join (query_loops one) (query_loops rest) a b (at_member home a x n h) (at_members home b xs k g))

  first_places : (places : List ℕ) (toks : List Token) → Sub places toks → (n : ℕ) → Sub (take n places) toks
  first_places _ _ none zero = none
  first_places _ _ none (suc n) = none
  first_places _ _ (skip tok places toks h) n = skip tok (take n places) toks (first_places places toks h n)
  first_places _ _ (keep tok places toks h) zero = nowhere (tok ∷ toks)
  first_places _ _ (keep tok places toks h) (suc n) = keep tok (take n places) toks (first_places places toks h n)

  front : (xs ys : List ℕ) (toks : List Token) → Sub (xs ++ ys) toks → Sub xs toks
  front xs ys toks h = subst (λ (l : List ℕ). Sub l toks) (take-append_seam xs ys) (first_places (xs ++ ys) toks h (length xs))

  first_query : (queries : List (List Stmt)) (toks : List Token) → Sub (query_loops queries) toks → Sub (flat_map loop_offsets (unwrap_or (slice_get queries 0) [])) toks
  first_query [] toks h = nowhere toks
  first_query (query ∷ queries) toks h = front (flat_map loop_offsets query) (query_loops queries) toks h

  abbrev class_loops : Home → ClassTree → List ℕ → List ℕ
  class_loops home class n = flat_map loop_offsets (class_of home class n).0.query

  at_class : (home : Home) (toks : List Token) (x : ClassTree) (n : List ℕ) → ReadsClass src toks x → Sub (class_loops home x n) toks
  at_class home _ _ n (r.class a word name opening closing xs _ _ _ _ h) =
      skip word _ _ (skip name _ _ (skip opening _ _ (pad _ a (closing ∷ [])
      (first_query (shares home xs n).0.queries a (at_members home a xs n h)))))

  abbrev program_loops : List Class → List ℕ
  program_loops classes = flat_map loop_offsets (flat_map (λ c. c.query) classes)

  at_classes : (all : Known) (number : ℕ) (toks : List Token) (xs : List ClassTree) (n : List ℕ) → ReadsClasses src toks xs → Sub (program_loops (classes_from all number xs n).0) toks
  at_classes all number _ _ n (r.last a x h) =
      let query : List Stmt = (class_of (home_of all number x) x n).0.query in
      subst (λ (l : List Stmt). Sub (flat_map loop_offsets l) a) (sym (append-nil query)) (at_class (home_of all number x) a x n h)
  at_classes all number _ _ n (r.more a b x xs h g) =
      let home : Home = home_of all number x in
      let k : List ℕ = (class_of home x n).1 in
      let query : List Stmt = (class_of home x n).0.query in
      let rest : List Stmt = flat_map (λ (c : Class). c.query) (classes_from all (number + 1) xs k).0 in
      subst (λ (l : List ℕ). Sub l (a ++ b)) (sym (flat_map-append loop_offsets query rest))
      (join (class_loops home x n) (flat_map loop_offsets rest) a b (at_class home a x n h) (at_classes all (number + 1) b xs k g))

-- the loops of a program whose script is read have places of their own
pub loops_apart : (src : List ℕ) (toks : List Token) (all : Known) (xs : List ClassTree) → Spells src toks → ReadsClasses src toks xs
    → IsDistinct nat_eq (flat_map loop_offsets (flat_map (λ c. c.query) (classes_from all 0 xs []).0))
loops_apart src toks all xs spelled read =
    rising_differ 0 (flat_map loop_offsets (flat_map (λ (c : Class). c.query) (classes_from all 0 xs []).0))
    (places_rise 0 (length src) toks (flat_map loop_offsets (flat_map (λ (c : Class). c.query) (classes_from all 0 xs []).0))
    (at_classes src all 0 toks xs [] read) (spells_rises src toks spelled))
