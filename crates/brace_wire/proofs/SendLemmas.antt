-- What a sending hands over by its fate, and what a link's receiver has behind a round.
use Rattle.std.proofs.Common.{◌≡◌, ◌∙◌, ℕ, zero, suc, ◌+◌, ◌^◌, ◌<◌, ◌≤◌, List, [], ◌∷◌, ◌++◌, length, get_or, set, map, take, drop, Option, Some, None, Result, Ok, Err, refl, sym, ap, subst, append_assoc, arith}
use Rattle.std.specs.List.{AllByRecursion, fold}
use Rattle.std.specs.Prelude.{slice_get, OnOk}
use Rattle.std.proofs.lemmas.List.{set-get_or, take_all, append-nil}
use Rattle.std.proofs.lemmas.List.Sums.{fold-append}
use Rattle.std.proofs.lemmas.Result.{on_ok_weaker}
use Rattle.brace_wire.specs.declared.frame.Frame.{Frame}
use Rattle.brace_wire.specs.declared.fate.Fate.{Fate}
use Rattle.brace_wire.specs.declared.fate.Fate.TheVariants.{Deliver, Twice}
use Rattle.brace_wire.specs.declared.kept.Kept.{Kept}
use Rattle.brace_wire.specs.Links.{OnReceiver, OnLink, accepted, fate_of, at_once, late_of, sent_at_once, sent_late, sent_again, after_round}
use Rattle.brace_wire.specs.inner.Standing.{frames_of, held, CanCount, HasPlace}
use Rattle.brace_wire.proofs.StreamLemmas.{all_append}
use Rattle.brace_wire.proofs.AcceptLemmas.{all_same_taken}

-- ---- fates

pub once_is : (fates : List Fate) (kept : Kept) (fate : Fate) → fate_of fates kept.sent ≡ fate → sent_at_once fates (Some kept) ≡ at_once fate kept.frame
once_is fates kept fate is = ap (λ (f : Fate). at_once f kept.frame) is

pub late_is : (fates : List Fate) (kept : Kept) (fate : Fate) → fate_of fates kept.sent ≡ fate → sent_late fates (Some kept) ≡ late_of fate kept.frame
late_is fates kept fate is = ap (λ (f : Fate). late_of f kept.frame) is

-- the same of a piece that is kept
module _ (fates : List Fate) (o : Option Kept) (kept : Kept) (is : o ≡ Some kept) (fate : Fate) (by : fate_of fates kept.sent ≡ fate) where
  pub once_by : sent_at_once fates o ≡ at_once fate kept.frame
  once_by = ap (sent_at_once fates) is ∙ once_is fates kept fate by

  pub late_by : sent_late fates o ≡ late_of fate kept.frame
  late_by = ap (sent_late fates) is ∙ late_is fates kept fate by

pub can_count : (o : Option Kept) (kept : Kept) → o ≡ Some kept → kept.sent + 1 < 2 ^ 64 → CanCount o
can_count o kept is low = subst CanCount (sym is) low

-- none, one or two frames were appended
pub none_more : (out more : List Frame) → more ≡ [] → out ≡ out ++ more
none_more out more none = sym (ap (λ (l : List Frame). out ++ l) none ∙ append-nil out)

same_more : (out more frames : List Frame) → more ≡ frames → out ++ frames ≡ out ++ more
same_more out more frames is = ap (λ (l : List Frame). out ++ l) (sym is)

-- the same where an answer is Ok
module _ {X E : Type 0} (r : Result X E) where
  pub ok_known : (P : Type 0) → P → OnOk r P
  ok_known P p = known r
    where
      known : (r : Result X E) → OnOk r P
      known (Ok x) = p
      known (Err e) = tt

  pub ok_more : (out new more frames : List Frame) → more ≡ frames → OnOk r (new ≡ out ++ frames) → OnOk r (new ≡ out ++ more)
  ok_more out new more frames is = on_ok_weaker r (λ (e : new ≡ out ++ frames). e ∙ same_more out more frames is)

  pub ok_twice : (out mid new : List Frame) (f : Frame) → mid ≡ out ++ f ∷ [] → OnOk r (new ≡ mid ++ f ∷ []) → OnOk r (new ≡ out ++ f ∷ f ∷ [])
  ok_twice out mid new f one =
      on_ok_weaker r (λ (two : new ≡ mid ++ f ∷ []). two ∙ ap (λ (l : List Frame). l ++ f ∷ []) one ∙ append_assoc out (f ∷ []) (f ∷ []))

-- ---- places

all_split : {A : Type 0} (P : A → Type 0) (xs ys : List A) → AllByRecursion P (xs ++ ys) → AllByRecursion P xs × AllByRecursion P ys
all_split P [] ys h = (tt, h)
all_split P (x ∷ xs) ys h = let (front, back) = all_split P xs ys h.1 in ((h.0, front), back)

once_place : (n : ℕ) (fate : Fate) (f : Frame) → f.ordinal < n + 2 → HasPlace n (at_once fate f)
once_place n Deliver f low = (low, tt)
once_place n Twice f low = (low, (low, tt))
once_place n _ f low = tt

kept_place : (n : ℕ) (fates : List Fate) (o : Option Kept) → HasPlace n (frames_of o) → HasPlace n (sent_at_once fates o)
kept_place n fates None h = tt
kept_place n fates (Some k) h = once_place n (fate_of fates k.sent) k.frame h.0

module _ (fates : List Fate) (link : OnLink) (place : HasPlace link.receiver.taken (held link)) where
  abbrev P : Frame → Type 0
  P f = f.ordinal < link.receiver.taken + 2

  older_newer : HasPlace link.receiver.taken (frames_of link.older) × HasPlace link.receiver.taken (frames_of link.newer ++ link.late)
  older_newer = all_split P (frames_of link.older) (frames_of link.newer ++ link.late) place

  newer_late : HasPlace link.receiver.taken (frames_of link.newer) × HasPlace link.receiver.taken link.late
  newer_late = all_split P (frames_of link.newer) link.late older_newer.1

  pub once_has_place : (frames : List Frame) → frames ≡ sent_at_once fates link.older ++ sent_at_once fates link.newer → HasPlace link.receiver.taken frames
  once_has_place frames is = subst (HasPlace link.receiver.taken) (sym is)
      (all_append P (sent_at_once fates link.older) (sent_at_once fates link.newer) (kept_place _ fates link.older older_newer.0) (kept_place _ fates link.newer newer_late.0))

  pub late_has_place : (frames : List Frame) → HasPlace (fold accepted link.receiver frames).taken link.late
  late_has_place frames = subst (λ n. HasPlace n link.late) (sym (all_same_taken link.receiver frames)) newer_late.1

-- the frames of both sendings, and those that came late
pub behind_round : (r : OnReceiver) (once a b late : List Frame) → once ≡ a ++ b → fold accepted (fold accepted r once) late ≡ fold accepted r (a ++ (b ++ late))
behind_round r once a b late is =
    sym (fold-append accepted r once late)
    ∙ ap (λ (l : List Frame). fold accepted r (l ++ late)) is
    ∙ ap (fold accepted r) (append_assoc a b late)

-- what a link comes to whose frames were sent, handed over and counted
abbrev pub link_with : ℕ → Option Kept → Option Kept → List Frame → OnReceiver → OnLink
link_with put older newer late receiver = record { put = put; older = older; newer = newer; late = late; receiver = receiver }

same_link : (n : ℕ) (a b c d : Option Kept) (x y : List Frame) (r s : OnReceiver) → a ≡ b → c ≡ d → x ≡ y → r ≡ s → link_with n a c x r ≡ link_with n b d y s
same_link n a b c d x y r s one two three four = cc

pub after_is : (fates : List Fate) (l : OnLink) (older newer : Option Kept) (late once : List Frame) (r s : OnReceiver) → older ≡ sent_again l.older → newer ≡ sent_again l.newer
    → late ≡ sent_late fates l.older ++ sent_late fates l.newer → once ≡ sent_at_once fates l.older ++ sent_at_once fates l.newer
    → r ≡ fold accepted l.receiver once → s ≡ fold accepted r l.late → link_with l.put older newer late s ≡ after_round fates l
after_is fates l older newer late once r s one two three four five six =
    same_link l.put older (sent_again l.older) newer (sent_again l.newer) late (sent_late fates l.older ++ sent_late fates l.newer)
    s (fold accepted l.receiver (sent_at_once fates l.older ++ (sent_at_once fates l.newer ++ l.late))) one two three
    (six ∙ ap (λ (x : OnReceiver). fold accepted x l.late) five ∙ behind_round l.receiver once (sent_at_once fates l.older) (sent_at_once fates l.newer) l.late four)

-- ---- a round on one link after another

-- the next of a list whose first were changed
pub next_mixed : {A : Type 0} (f : A → A) (i : ℕ) (xs : List A) (d : A) → i < length xs → get_or (map f (take i xs) ++ drop i xs) i d ≡ get_or xs i d
next_mixed f i [] d low = absurd (omega (arith, low))
next_mixed f zero (x ∷ xs) d low = refl
next_mixed f (suc i) (x ∷ xs) d low = next_mixed f i xs d (omega (arith, low))

-- and one more was changed
pub set_mixed : {A : Type 0} (f : A → A) (i m : ℕ) (xs : List A) (d y : A) → m ≡ suc i → i < length xs → y ≡ f (get_or xs i d) → set (map f (take i xs) ++ drop i xs) i y ≡ map f (take m xs) ++ drop m xs
set_mixed {A} f i m xs d y is low e = one_more i xs low e ∙ ap (λ k. map f (take k xs) ++ drop k xs) (sym is)
  where
    one_more : (i : ℕ) (xs : List A) → i < length xs → y ≡ f (get_or xs i d) → set (map f (take i xs) ++ drop i xs) i y ≡ map f (take (suc i) xs) ++ drop (suc i) xs
    one_more i [] low e = absurd (omega (arith, low))
    one_more zero (x ∷ xs) low e = ap (λ (z : A). z ∷ xs) e
    one_more (suc i) (x ∷ xs) low e = ap (λ (l : List A). f x ∷ l) (one_more i xs (omega (arith, low)) e)

-- what is read is there
pub read_at : {A : Type 0} (xs : List A) (i : ℕ) (x : A) → i < length xs → x ≡ get_or xs i x → slice_get xs i ≡ Some x
read_at [] i x low at = absurd (omega (arith, low))
read_at (y ∷ ys) zero x low at = ap Some (sym at)
read_at (y ∷ ys) (suc i) x low at = read_at ys i x (omega (arith, low)) at

module _ {A : Type 0} (f : A → A) (i : ℕ) (xs ys : List A) (are : ys ≡ map f (take i xs) ++ drop i xs) where
  module _ (x : A) (low : i < length xs) (at : x ≡ get_or ys i x) where
    next_at : x ≡ get_or xs i x
    next_at = at ∙ ap (λ (l : List A). get_or l i x) are ∙ next_mixed f i xs x low

    pub next_there : slice_get xs i ≡ Some x
    next_there = read_at xs i x low next_at

    pub set_there : (m : ℕ) (y : A) → m ≡ suc i → y ≡ f x → set ys i y ≡ map f (take m xs) ++ drop m xs
    set_there m y is changed = ap (λ (l : List A). set l i y) are ∙ set_mixed f i m xs x y is low (changed ∙ ap f next_at)

    pub kept_there : (y : A) → y ≡ x → set ys i y ≡ map f (take i xs) ++ drop i xs
    kept_there y same = ap (set ys i) (same ∙ at) ∙ set-get_or ys i x ∙ are

  -- all were changed
  pub all_changed : length xs ≤ i → ys ≡ map f xs
  all_changed all =
      are ∙ ap (λ (l : List A). map f l ++ drop i xs) (take_all i xs all) ∙ ap (λ (l : List A). map f xs ++ l) (none_left i xs all) ∙ append-nil (map f xs)
    where
      none_left : (n : ℕ) (l : List A) → length l ≤ n → drop n l ≡ []
      none_left zero [] le = refl
      none_left zero (x ∷ l) le = absurd (omega (arith, le))
      none_left (suc n) [] le = refl
      none_left (suc n) (x ∷ l) le = none_left n l (omega (arith, le))
