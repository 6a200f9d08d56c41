-- How the rows of members, classes and scripts go.
use Rattle.std.proofs.Common.{◌≡◌, refl, sym, ap, subst, ◌∙◌, ℕ, zero, suc, ◌≤◌, List, [], ◌∷◌, ◌++◌, length, Bool, true, false, pos, nat_eq, arith, append_assoc, append-nil}
use Rattle.std.specs.Prelude.{Option, Some, None, Ok, if◌then◌else◌}
use Rattle.std.proofs.lemmas.Bool.Decides.{nat_tests}
use Rattle.brace_tok.specs.declared.kinds.Token.{Token}
use Rattle.brace_tok.specs.declared.kinds.TokKind.{TokKind}
use Rattle.brace_tok.specs.declared.kinds.TokKind.TheVariants as k
use Rattle.brace_syntax.specs.declared.mark.Mark.TheVariants as m
use Rattle.brace_syntax.specs.declared.tree.Number.{Number}
use Rattle.brace_syntax.specs.declared.tree.Digits.TheVariants as digits
use Rattle.brace_syntax.specs.declared.tree.TyName.{TyName}
use Rattle.brace_syntax.specs.declared.tree.TyName.TheVariants as ty
use Rattle.brace_syntax.specs.declared.tree.ExprTree.{ExprTree}
use Rattle.brace_syntax.specs.declared.tree.GiftTree.{GiftTree}
use Rattle.brace_syntax.specs.declared.tree.MemberTree.{MemberTree}
use Rattle.brace_syntax.specs.declared.tree.MemberTree.TheVariants as v
use Rattle.brace_syntax.specs.declared.tree.ClassTree.{ClassTree}
use Rattle.brace_syntax.specs.declared.tree.Tree.{Tree}
use Rattle.brace_syntax.specs.Tables.{Is, ident, number, type_name}
use Rattle.brace_syntax.specs.inner.Cursor.{Input, Parser, next, place, first, sees, after, pure, ◌>>=◌}
use Rattle.brace_syntax.specs.Reads as g
use Rattle.brace_syntax.specs.Reads.{ReadsExpr, ReadsField, ReadsGift, ReadsGifts, ReadsMember, ReadsMembers, ReadsClass, ReadsClasses, Reads}
use Rattle.brace_syntax.specs.inner.Descent as d
use Rattle.brace_syntax.proofs.Forward.{at}
use Rattle.brace_syntax.proofs.Inversions.{no_fault, same_value, same_input}
use Rattle.brace_syntax.proofs.Inversions as inverse
use Rattle.brace_syntax.proofs.ClassFound.{some_gift, some_tokens, some_class}
use Rattle.brace_syntax.proofs.Goes.{Goes, Runs, End, gives, refuses, outcome, Says, Begun, wider, recast, alone, ended, done, stops, passes, bound, maps, kind_then, name_then, number_then, type_then, combinator_then, expect_then, eat_then, a_token}
use Rattle.brace_syntax.proofs.GoesExpr.{expression-goes}
use Rattle.brace_syntax.proofs.GoesStmt.{Ended, Assigned, assigned, assigned-goes, block-goes, a_closing, items_by}

-- `[r];`
data Ranged (src : List ℕ) : List Token → Number → Type 0 where
  ranged : (opening range closing semicolon : Token) (n : Number) → Is k.OpenBracket opening → number range ≡ Some n → Is k.CloseBracket closing → Is k.Semicolon semicolon → Ranged src (opening ∷ range ∷ closing ∷ semicolon ∷ []) n

-- the rule of a state, if it has one, and the semicolon
data Ruled (src : List ℕ) : List Token → Option ExprTree → Type 0 where
  free : (semicolon : Token) → Is k.Semicolon semicolon → Ruled src (semicolon ∷ []) None
  ruled : (a : List Token) (colon semicolon : Token) (x : ExprTree) → Is k.Colon colon → Is k.Semicolon semicolon → ReadsExpr src g.choices a x → Ruled src (colon ∷ a ++ semicolon ∷ []) (Some x)

-- the classes that are read now come after those found before
record Classes (src : List ℕ) (found : List ClassTree) (toks : List Token) (xs : List ClassTree) : Type 0 where
  more : List ClassTree
  found_is : xs ≡ found ++ more
  reads : ReadsClasses src toks more

goes_on_by : {B : Type 0} (b : Bool) (p q : Parser B) (i : Input) → b ≡ false → (if b then p else q) i ≡ q i
goes_on_by true p q i e = absurd (cc)
goes_on_by false p q i e = refl

some_tokens_left : (tok : Token) (toks : List Token) → nat_eq (length (tok ∷ toks)) 0 ≡ false
some_tokens_left tok toks = grind (arith, nat_tests)

module _ (src : List ℕ) where
  range-goes : (toks toks' : List Token) → Goes src (Ranged src) toks toks' (d.range (at src toks)) (d.range (at src toks'))
  unfolding d.range
  range-goes toks toks' =
      expect_then m.OpenBracket toks toks' _ _ (λ opening ho a a' _ _.
      number_then a a' _ _ (λ range n hn b b' _ _.
      expect_then m.CloseBracket b b' _ _ (λ closing hc c c' _ _.
      expect_then m.Semicolon c c' _ _ (λ semicolon hs _ _ _ _. done (ranged opening range closing semicolon n ho hn hc hs)))))

  visible_reads : (word : Token) → Is k.Visible word → (a : List Token) (n : Number) → Ranged src a n → ReadsMember src (word ∷ a) (v.Visible n word.from)
  visible_reads word h _ _ (ranged opening range closing semicolon n ho hn hc hs) = g.visible word opening range closing semicolon n h ho hn hc hs

  visible-goes : (word : Token) → Is k.Visible word → (toks toks' : List Token) → Goes src (ReadsMember src) (word ∷ toks) (word ∷ toks') (d.visible (at src (word ∷ toks))) (d.visible (at src (word ∷ toks')))
  unfolding d.visible place next first
  visible-goes word h toks toks' = passes word (maps _ (range-goes toks toks') (visible_reads word h))

  reach_reads : (word : Token) → Is k.Reach word → (a : List Token) (n : Number) → Ranged src a n → ReadsMember src (word ∷ a) (v.Reach n word.from)
  reach_reads word h _ _ (ranged opening range closing semicolon n ho hn hc hs) = g.reach word opening range closing semicolon n h ho hn hc hs

  reach-goes : (word : Token) → Is k.Reach word → (toks toks' : List Token) → Goes src (ReadsMember src) (word ∷ toks) (word ∷ toks') (d.reach (at src (word ∷ toks))) (d.reach (at src (word ∷ toks')))
  unfolding d.reach place next first
  reach-goes word h toks toks' = passes word (maps _ (range-goes toks toks') (reach_reads word h))

  ruled-goes : (toks toks' : List Token) → Goes src (Ruled src) toks toks' (d.ruled (at src toks)) (d.ruled (at src toks'))
  unfolding d.ruled
  ruled-goes toks toks' =
      eat_then m.Colon toks toks' _ _ _ _
      (λ colon h a a' _ _. bound _ _ (expression-goes src a a') (λ inner x r b b' _ _. expect_then m.Semicolon b b' _ _ (λ semicolon hs _ _ _ _. done (ruled inner colon semicolon x h hs r))))
      (λ a a' _ _. expect_then m.Semicolon a a' _ _ (λ semicolon hs _ _ _ _. done (free semicolon hs)))

  state_reads : (is_public : Bool) (from : ℕ) (word type name : Token) (t : TyName) → Is k.KwState word → type_name src type ≡ Some t → Is k.Word name → (a : List Token) (x : Option ExprTree) → Ruled src a x
      → ReadsField src is_public from (word ∷ type ∷ name ∷ a) (v.State is_public t (ident src name) x from)
  state_reads is_public from word type name t h ht hn _ _ (free semicolon hs) = g.state word type name semicolon t h ht hn hs
  state_reads is_public from word type name t h ht hn _ _ (ruled a colon semicolon x hc hs r) = g.ruled a word type name colon semicolon t x h ht hn hc hs r

  state-goes : (is_public : Bool) (from : ℕ) (word : Token) → Is k.KwState word → (toks toks' : List Token)
      → Goes src (ReadsField src is_public from) (word ∷ toks) (word ∷ toks') (d.state is_public from (at src (word ∷ toks))) (d.state is_public from (at src (word ∷ toks')))
  unfolding d.state place next first
  state-goes is_public from word h toks toks' =
      passes word (type_then toks toks' _ _ (λ type t ht a a' _ _.
      name_then a a' _ _ (λ name hn b b' _ _. maps _ (ruled-goes b b') (state_reads is_public from word type name t h ht hn))))

  effect-goes : (is_public : Bool) (from : ℕ) (word : Token) → Is k.KwEffect word → (toks toks' : List Token)
      → Goes src (ReadsField src is_public from) (word ∷ toks) (word ∷ toks') (d.effect is_public from (at src (word ∷ toks))) (d.effect is_public from (at src (word ∷ toks')))
  unfolding d.effect place next first
  effect-goes is_public from word h toks toks' =
      passes word (type_then toks toks' _ _ (λ type t ht a a' _ _.
      name_then a a' _ _ (λ name hn b b' _ _.
      expect_then m.Colon b b' _ _ (λ colon hk c c' _ _.
      combinator_then c c' _ _ (λ joins how hj e e' _ _.
      expect_then m.Semicolon e e' _ _ (λ semicolon hs _ _ _ _. done (g.effect word type name colon joins semicolon t how h ht hn hk hj hs)))))))

  a_field : (is_public : Bool) (from : ℕ) → Begun (ReadsField src is_public from) []
  a_field is_public from = record {
    more = a_token k.KwState ∷ a_token k.KwInt ∷ a_token k.Word ∷ a_token k.Semicolon ∷ [];
    value = v.State is_public ty.Int (ident src (a_token k.Word)) None from;
    reads = g.state (a_token k.KwState) (a_token k.KwInt) (a_token k.Word) (a_token k.Semicolon) ty.Int refl refl refl refl;
  }

  field_by-goes : (is_public : Bool) (from : ℕ) (what : TokKind) (tok : Token) → Is what tok → (toks toks' : List Token)
      → Goes src (ReadsField src is_public from) (tok ∷ toks) (tok ∷ toks') (d.field_by is_public from (Some what) (at src (tok ∷ toks))) (d.field_by is_public from (Some what) (at src (tok ∷ toks')))
  field_by-goes is_public from k.KwState tok h toks toks' = state-goes is_public from tok h toks toks'
  field_by-goes is_public from k.KwEffect tok h toks toks' = effect-goes is_public from tok h toks toks'
  field_by-goes is_public from what tok h toks toks' = stops (a_field is_public from)

  field-goes : (is_public : Bool) (from : ℕ) (toks toks' : List Token) → Goes src (ReadsField src is_public from) toks toks' (d.field is_public from (at src toks)) (d.field is_public from (at src toks'))
  unfolding d.field
  field-goes is_public from toks toks' =
      kind_then toks toks' (d.field_by is_public from) (d.field_by is_public from) (λ tok a a' _ _. field_by-goes is_public from tok.kind tok refl a a') (stops (a_field is_public from))

  run-goes : (word void : Token) → Is k.KwPublic word → Is k.KwVoid void → (toks toks' : List Token)
      → Goes src (λ b y. ReadsMember src (word ∷ b) y) (void ∷ toks) (void ∷ toks') (d.run word.from (at src (void ∷ toks))) (d.run word.from (at src (void ∷ toks')))
  unfolding d.run place next first
  run-goes word void h hv toks toks' =
      passes void (expect_then m.Run toks toks' _ _ (λ run hr a a' _ _.
      expect_then m.OpenParen a a' _ _ (λ opening ho b b' _ _.
      expect_then m.CloseParen b b' _ _ (λ closing hc c c' _ _.
      maps _ (block-goes src c c') (λ inner block r. g.run inner word void run opening closing block h hv hr ho hc r)))))

  public_field : (word : Token) → Is k.KwPublic word → (toks toks' : List Token) → Goes src (λ b y. ReadsMember src (word ∷ b) y) toks toks' (d.field true word.from (at src toks)) (d.field true word.from (at src toks'))
  public_field word h toks toks' = wider (field-goes true word.from toks toks') (λ a x r. g.public a word x h r)

  public_by-goes : (word : Token) → Is k.KwPublic word → (what : TokKind) (tok : Token) → Is what tok → (toks toks' : List Token)
      → Goes src (λ b y. ReadsMember src (word ∷ b) y) (tok ∷ toks) (tok ∷ toks') (d.public_by word.from (Some what) (at src (tok ∷ toks))) (d.public_by word.from (Some what) (at src (tok ∷ toks')))
  public_by-goes word h k.KwVoid tok hv toks toks' = run-goes word tok h hv toks toks'
  public_by-goes word h what tok hv toks toks' = public_field word h (tok ∷ toks) (tok ∷ toks')

  public-goes : (word : Token) → Is k.KwPublic word → (toks toks' : List Token) → Goes src (ReadsMember src) (word ∷ toks) (word ∷ toks') (d.public (at src (word ∷ toks))) (d.public (at src (word ∷ toks')))
  unfolding d.public place next first
  public-goes word h toks toks' =
      passes word (kind_then toks toks' (d.public_by word.from) (d.public_by word.from) (λ tok a a' _ _. public_by-goes word h tok.kind tok refl a a') (public_field word h [] []))

  private-goes : (word : Token) → Is k.KwPrivate word → (toks toks' : List Token) → Goes src (ReadsMember src) (word ∷ toks) (word ∷ toks') (d.private (at src (word ∷ toks))) (d.private (at src (word ∷ toks')))
  unfolding d.private place next first
  private-goes word h toks toks' = passes word (wider (field-goes false word.from toks toks') (λ a x r. g.private a word x h r))

  die-goes : (word : Token) → Is k.KwDie word → (toks toks' : List Token) → Goes src (ReadsMember src) (word ∷ toks) (word ∷ toks') (d.die (at src (word ∷ toks))) (d.die (at src (word ∷ toks')))
  unfolding d.die place next first
  die-goes word h toks toks' =
      passes word (expect_then m.When toks toks' _ _ (λ when hw a a' _ _.
      bound _ _ (expression-goes src a a') (λ inner x r b b' _ _.
      expect_then m.Semicolon b b' _ _ (λ semicolon hs _ _ _ _. done (g.die inner word when semicolon x h hw hs r)))))

  gift_reads : (name : Token) → Is k.Word name → (a : List Token) (x : ExprTree) → Assigned src a x → ReadsGift src (name ∷ a) (record { state = ident src name; value = x })
  gift_reads name hn _ _ (assigned a arrow semicolon x ha hs r) = g.gift a name arrow semicolon x hn ha hs r

  gift-goes : (toks toks' : List Token) → Goes src (ReadsGift src) toks toks' (d.gift (at src toks)) (d.gift (at src toks'))
  unfolding d.gift
  gift-goes toks toks' = name_then toks toks' _ _ (λ name hn a a' _ _. maps _ (assigned-goes src a a') (gift_reads name hn))

  gifts_by : (t t' : ℕ) (found : List GiftTree) (again again' : List GiftTree → Parser (List GiftTree)) → ((more : List GiftTree) → Runs src (Ended (ReadsGifts src) more) t t' (again more) (again' more))
      → Runs src (Ended (ReadsGifts src) found) (suc t) (suc t')
      (λ i. (if sees m.CloseBrace i then pure found else (d.gift >>= (λ x. again (found ++ x ∷ [])))) (after m.CloseBrace i))
      (λ i. (if sees m.CloseBrace i then pure found else (d.gift >>= (λ x. again' (found ++ x ∷ [])))) (after m.CloseBrace i))
  gifts_by t t' found again again' ha =
      items_by src (ReadsGift src) (ReadsGifts src) g.none (λ a b x xs r rs. g.more a b x xs r rs) (some_gift src) t t' d.gift d.gift (λ toks toks' _ _. gift-goes toks toks') found again again' ha

  gifts_from-goes : (t t' : ℕ) (found : List GiftTree) → Runs src (Ended (ReadsGifts src) found) t t' (d.gifts_from t found) (d.gifts_from t' found)
  unfolding d.gifts_from
  gifts_from-goes zero t' found [] toks' l l' = ended {others = []} (stops (a_closing (ReadsGifts src) g.none found))
  gifts_from-goes zero t' found (tok ∷ toks) toks' l l' = absurd (omega arith)
  gifts_from-goes (suc t) zero found toks [] l l' = alone (gifts_by t zero found (d.gifts_from t) (d.gifts_from zero) (gifts_from-goes t zero) toks [] l (omega arith))
  gifts_from-goes (suc t) zero found toks (tok ∷ toks') l l' = absurd (omega arith)
  gifts_from-goes (suc t) (suc t') found toks toks' l l' = gifts_by t t' found (d.gifts_from t) (d.gifts_from t') (gifts_from-goes t t') toks toks' l l'

  gifts-goes : (toks toks' : List Token) → Goes src (Ended (ReadsGifts src) []) toks toks' (d.gifts (at src toks)) (d.gifts (at src toks'))
  unfolding d.gifts
  gifts-goes toks toks' = gifts_from-goes (length toks) (length toks') [] toks toks' (omega arith) (omega arith)

  spawn_reads : (word when opening : Token) (a : List Token) (x : ExprTree) → Is k.KwSpawn word → Is k.KwWhen when → Is k.OpenBrace opening → ReadsExpr src g.choices a x → (b : List Token) (gs : List GiftTree) → Ended (ReadsGifts src) [] b gs
      → ReadsMember src (word ∷ when ∷ (a ++ (opening ∷ b))) (v.Spawn x gs word.from)
  spawn_reads word when opening a x h hw ho r b gs q =
      subst (λ (z : List Token). ReadsMember src (word ∷ when ∷ z) (v.Spawn x gs word.from)) (append_assoc a (opening ∷ q.body) (q.closing ∷ []) ∙ ap (λ (z : List Token). a ++ (opening ∷ z)) (sym q.whole))
      (subst (λ (z : List GiftTree). ReadsMember src (word ∷ when ∷ ((a ++ (opening ∷ q.body)) ++ (q.closing ∷ []))) (v.Spawn x z word.from)) (sym q.found_is) (g.spawn a q.body word when opening q.closing x q.more h hw ho q.is_closing r q.reads))

  spawn-goes : (word : Token) → Is k.KwSpawn word → (toks toks' : List Token) → Goes src (ReadsMember src) (word ∷ toks) (word ∷ toks') (d.spawn (at src (word ∷ toks))) (d.spawn (at src (word ∷ toks')))
  unfolding d.spawn place next first
  spawn-goes word h toks toks' =
      passes word (expect_then m.When toks toks' _ _ (λ when hw a a' _ _.
      bound _ _ (expression-goes src a a') (λ inner x r b b' _ _.
      expect_then m.OpenBrace b b' _ _ (λ opening ho c c' _ _. maps _ (gifts-goes c c') (spawn_reads word when opening inner x h hw ho r)))))

  a_member : Begun (ReadsMember src) []
  a_member = record {
    more = a_token k.Reach ∷ a_token k.OpenBracket ∷ a_token (k.Int (pos 0)) ∷ a_token k.CloseBracket ∷ a_token k.Semicolon ∷ [];
    value = v.Reach (record { digits = digits.Int (pos 0); at = 0 }) 0;
    reads = g.reach (a_token k.Reach) (a_token k.OpenBracket) (a_token (k.Int (pos 0))) (a_token k.CloseBracket) (a_token k.Semicolon) (record { digits = digits.Int (pos 0); at = 0 }) refl refl refl refl refl;
  }

  member_by-goes : (what : TokKind) (tok : Token) → Is what tok → (toks toks' : List Token)
      → Goes src (ReadsMember src) (tok ∷ toks) (tok ∷ toks') (d.member_by (Some what) (at src (tok ∷ toks))) (d.member_by (Some what) (at src (tok ∷ toks')))
  member_by-goes k.Visible tok h toks toks' = visible-goes tok h toks toks'
  member_by-goes k.Reach tok h toks toks' = reach-goes tok h toks toks'
  member_by-goes k.KwPublic tok h toks toks' = public-goes tok h toks toks'
  member_by-goes k.KwPrivate tok h toks toks' = private-goes tok h toks toks'
  member_by-goes k.KwDie tok h toks toks' = die-goes tok h toks toks'
  member_by-goes k.KwSpawn tok h toks toks' = spawn-goes tok h toks toks'
  member_by-goes what tok h toks toks' = stops a_member

  member-goes : (toks toks' : List Token) → Goes src (ReadsMember src) toks toks' (d.member (at src toks)) (d.member (at src toks'))
  unfolding d.member
  member-goes toks toks' = kind_then toks toks' d.member_by d.member_by (λ tok a a' _ _. member_by-goes tok.kind tok refl a a') (stops a_member)

  members_by : (t t' : ℕ) (found : List MemberTree) (again again' : List MemberTree → Parser (List MemberTree)) → ((more : List MemberTree) → Runs src (Ended (ReadsMembers src) more) t t' (again more) (again' more))
      → Runs src (Ended (ReadsMembers src) found) (suc t) (suc t')
      (λ i. (if sees m.CloseBrace i then pure found else (d.member >>= (λ x. again (found ++ x ∷ [])))) (after m.CloseBrace i))
      (λ i. (if sees m.CloseBrace i then pure found else (d.member >>= (λ x. again' (found ++ x ∷ [])))) (after m.CloseBrace i))
  members_by t t' found again again' ha =
      items_by src (ReadsMember src) (ReadsMembers src) g.none (λ a b x xs r rs. g.more a b x xs r rs) (some_tokens src) t t' d.member d.member (λ toks toks' _ _. member-goes toks toks') found again again' ha

  members_from-goes : (t t' : ℕ) (found : List MemberTree) → Runs src (Ended (ReadsMembers src) found) t t' (d.members_from t found) (d.members_from t' found)
  unfolding d.members_from
  members_from-goes zero t' found [] toks' l l' = ended {others = []} (stops (a_closing (ReadsMembers src) g.none found))
  members_from-goes zero t' found (tok ∷ toks) toks' l l' = absurd (omega arith)
  members_from-goes (suc t) zero found toks [] l l' = alone (members_by t zero found (d.members_from t) (d.members_from zero) (members_from-goes t zero) toks [] l (omega arith))
  members_from-goes (suc t) zero found toks (tok ∷ toks') l l' = absurd (omega arith)
  members_from-goes (suc t) (suc t') found toks toks' l l' = members_by t t' found (d.members_from t) (d.members_from t') (members_from-goes t t') toks toks' l l'

  members-goes : (toks toks' : List Token) → Goes src (Ended (ReadsMembers src) []) toks toks' (d.members (at src toks)) (d.members (at src toks'))
  unfolding d.members
  members-goes toks toks' = members_from-goes (length toks) (length toks') [] toks toks' (omega arith) (omega arith)

  class_reads : (word name opening : Token) → Is k.KwClass word → Is k.Word name → Is k.OpenBrace opening → (b : List Token) (xs : List MemberTree) → Ended (ReadsMembers src) [] b xs
      → ReadsClass src (word ∷ name ∷ opening ∷ b) (record { name = ident src name; members = xs; at = word.from })
  class_reads word name opening h hn ho b xs q =
      subst (λ (z : List Token). ReadsClass src (word ∷ name ∷ opening ∷ z) (record { name = ident src name; members = xs; at = word.from })) (sym q.whole)
      (subst (λ (z : List MemberTree). ReadsClass src (word ∷ name ∷ opening ∷ (q.body ++ (q.closing ∷ []))) (record { name = ident src name; members = z; at = word.from })) (sym q.found_is)
      (g.class q.body word name opening q.closing q.more h hn ho q.is_closing q.reads))

  class-goes : (toks toks' : List Token) → Goes src (ReadsClass src) toks toks' (d.class (at src toks)) (d.class (at src toks'))
  unfolding d.class
  class-goes toks toks' =
      expect_then m.Class toks toks' _ _ (λ word h a a' _ _.
      name_then a a' _ _ (λ name hn b b' _ _.
      expect_then m.OpenBrace b b' _ _ (λ opening ho c c' _ _. maps _ (members-goes c c') (class_reads word name opening h hn ho))))

  -- at the end of the tokens, or before more of them
  end_then : {B : Type 0} {Q : List Token → B → Type 0} (toks toks' : List Token) (p q p' q' : Parser B) → Goes src Q [] [] (p (at src [])) (p' (at src []))
      → ((left rest : List Token) → length left ≤ length toks → length rest ≤ length toks' → Goes src Q left rest (q (at src left)) (q' (at src rest)))
      → Goes src Q toks toks' ((if nat_eq (length toks) 0 then p else q) (at src toks)) ((if nat_eq (length toks') 0 then p' else q') (at src toks'))
  end_then [] toks' p q p' q' none some = ended none
  end_then (tok ∷ toks) [] p q p' q' none some = recast (goes_on_by _ p q _ (some_tokens_left tok toks)) refl (alone {o' = q' (at src [])} (some (tok ∷ toks) [] (omega arith) (omega arith)))
  end_then (tok ∷ toks) (tok' ∷ toks') p q p' q' none some = recast (goes_on_by _ p q _ (some_tokens_left tok toks)) (goes_on_by _ p' q' _ (some_tokens_left tok' toks')) (some (tok ∷ toks) (tok' ∷ toks') (omega arith) (omega arith))

  a_class : Begun (ReadsClass src) []
  a_class = record {
    more = a_token k.KwClass ∷ a_token k.Word ∷ a_token k.OpenBrace ∷ a_token k.CloseBrace ∷ [];
    value = record { name = ident src (a_token k.Word); members = []; at = 0 };
    reads = g.class [] (a_token k.KwClass) (a_token k.Word) (a_token k.OpenBrace) (a_token k.CloseBrace) [] refl refl refl refl g.none;
  }

  last_class : (found : List ClassTree) (a : List Token) (x : ClassTree) → ReadsClass src a x → Classes src found a (found ++ x ∷ [])
  last_class found a x r = record { more = x ∷ []; found_is = refl; reads = g.last a x r }

  more_classes : (found : List ClassTree) (a : List Token) (x : ClassTree) → ReadsClass src a x → (b : List Token) (ys : List ClassTree) → Classes src (found ++ x ∷ []) b ys → Classes src found (a ++ b) ys
  more_classes found a x r b ys q = record { more = x ∷ q.more; found_is = q.found_is ∙ append_assoc found (x ∷ []) q.more; reads = g.more a b x q.more r q.reads }

  classes : (found : List ClassTree) → Begun (Classes src found) []
  classes found = record { more = a_class.more; value = found ++ a_class.value ∷ []; reads = last_class found a_class.more a_class.value a_class.reads }

  classes_by : (t t' : ℕ) (found : List ClassTree) (again again' : List ClassTree → Parser (List ClassTree)) → ((more : List ClassTree) → Runs src (Classes src more) t t' (again more) (again' more))
      → Runs src (Classes src found) (suc t) (suc t')
      (d.class >>= (λ x i. (if nat_eq (length i.rest) 0 then pure (found ++ x ∷ []) else again (found ++ x ∷ [])) i))
      (d.class >>= (λ x i. (if nat_eq (length i.rest) 0 then pure (found ++ x ∷ []) else again' (found ++ x ∷ [])) i))
  classes_by t t' found again again' ha toks toks' l l' =
      bound _ _ (class-goes toks toks') (λ one x r a a' la la'.
      let long = some_class src one x r in
      end_then a a' _ _ _ _
      (done (subst (λ (z : List Token). Classes src found z (found ++ x ∷ [])) (sym (append-nil one)) (last_class found one x r)))
      (λ b b' lb lb'. wider (ha (found ++ x ∷ []) b b' (omega arith) (omega arith)) (more_classes found one x r)))

  classes_from-goes : (t t' : ℕ) (found : List ClassTree) → Runs src (Classes src found) t t' (d.classes_from t found) (d.classes_from t' found)
  unfolding d.classes_from
  classes_from-goes zero t' found [] toks' l l' = ended {others = []} (stops (classes found))
  classes_from-goes zero t' found (tok ∷ toks) toks' l l' = absurd (omega arith)
  classes_from-goes (suc t) zero found toks [] l l' = alone (classes_by t zero found (d.classes_from t) (d.classes_from zero) (classes_from-goes t zero) toks [] l (omega arith))
  classes_from-goes (suc t) zero found toks (tok ∷ toks') l l' = absurd (omega arith)
  classes_from-goes (suc t) (suc t') found toks toks' l l' = classes_by t t' found (d.classes_from t) (d.classes_from t') (classes_from-goes t t') toks toks' l l'

  script_reads : (a : List Token) (xs : List ClassTree) → Classes src [] a xs → Reads src a (record { classes = xs })
  script_reads a xs q = subst (λ (z : List ClassTree). ReadsClasses src a z) (sym q.found_is) q.reads

  pub script-goes : (toks toks' : List Token) → Goes src (Reads src) toks toks' (d.script (at src toks)) (d.script (at src toks'))
  unfolding d.script
  script-goes toks toks' = maps _ (classes_from-goes (length toks) (length toks') [] toks toks' (omega arith) (omega arith)) script_reads

  -- ---- a script ends where its tokens do

  empty_of : (toks : List Token) → nat_eq (length toks) 0 ≡ true → toks ≡ []
  empty_of [] e = refl
  empty_of (tok ∷ toks) e = absurd (grind (arith, nat_tests))

  ends_by : (found : List ClassTree) (again : Parser (List ClassTree)) → ((i j : Input) (xs : List ClassTree) → again i ≡ Ok (xs, j) → j.rest ≡ [])
      → (b : Bool) (i j : Input) (xs : List ClassTree) → nat_eq (length i.rest) 0 ≡ b → (if b then pure found else again) i ≡ Ok (xs, j) → j.rest ≡ []
  ends_by found again ha true i j xs h e = sym (ap (λ (z : Input). z.rest) (same_input _ _ _ _ e)) ∙ empty_of i.rest h
  ends_by found again ha false i j xs h e = ha i j xs e

  classes_from-ends : (n : ℕ) (found : List ClassTree) (i j : Input) (xs : List ClassTree) → d.classes_from n found i ≡ Ok (xs, j) → j.rest ≡ []
  unfolding d.classes_from
  classes_from-ends zero found i j xs e = absurd (no_fault _ _ e)
  classes_from-ends (suc n) found i j xs e =
      let b = inverse.bound (d.class i) (λ x. d.is_end >>= (λ ends. if ends then pure (found ++ x ∷ []) else d.classes_from n (found ++ x ∷ []))) (xs, j) e in
      ends_by (found ++ b.value ∷ []) (d.classes_from n (found ++ b.value ∷ [])) (classes_from-ends n (found ++ b.value ∷ [])) (nat_eq (length b.input.rest) 0) b.input j xs refl b.then_

  script-ends : (i j : Input) (tree : Tree) → d.script i ≡ Ok (tree, j) → j.rest ≡ []
  unfolding d.script
  script-ends i j tree e =
      let b = inverse.bound (d.classes_from (d.turns i) [] i) (λ all. pure (record { classes = all })) (tree, j) e in
      sym (ap (λ (z : Input). z.rest) (same_input _ _ _ _ b.then_)) ∙ classes_from-ends (d.turns i) [] i b.input b.value b.first

  sound_by : (toks : List Token) (j : Input) (tree : Tree) → d.script (at src toks) ≡ Ok (tree, j) → (end : End Tree) (taken left : List Token) → toks ≡ taken ++ left
      → d.script (at src toks) ≡ outcome src end left → Says (Reads src) taken end → Reads src toks tree
  sound_by toks j tree e refuses taken left cut here says = absurd (no_fault _ _ (sym here ∙ e))
  sound_by toks j tree e (gives x) taken left cut here says =
      let none : left ≡ [] = script-ends (at src toks) (at src left) x here in
      subst (λ (z : Tree). Reads src toks z) (same_value _ _ _ _ (sym here ∙ e))
      (subst (λ (z : List Token). Reads src z x) (sym (cut ∙ (ap (λ (z : List Token). taken ++ z) none ∙ append-nil taken))) says)

  script_of : (toks : List Token) (j : Input) (tree : Tree) → d.script (at src toks) ≡ Ok (tree, j) → Reads src toks tree
  script_of toks j tree e = let u = script-goes toks [] in sound_by toks j tree e u.end u.taken u.left u.cut u.here u.says

-- the script that the parser computes is one that the grammar reads
pub script-sound : (src : List ℕ) (i j : Input) (tree : Tree) → i.src ≡ src → d.script i ≡ Ok (tree, j) → Reads src i.rest tree
script-sound src i j tree s e = script_of src i.rest j tree (subst (λ (z : List ℕ). d.script (at z i.rest) ≡ Ok (tree, j)) s e)
