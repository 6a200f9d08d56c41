-- A link goes by events of the lane that it shows: a put, a take and a round.
use Rattle.std.proofs.Common.{◌≡◌, ◌∙◌, ℕ, zero, suc, ◌+◌, ◌<◌, ◌≤◌, Bool, true, false, eqb, List, [], ◌∷◌, ◌++◌, length, take, drop, Option, Some, None, refl, sym, ap, subst, arith}
use Rattle.std.specs.Prelude.{slice_get, if◌then◌else◌}
use Rattle.std.specs.List.{AllByRecursion, fold}
use Rattle.std.proofs.lemmas.List.{append-nil, length-append, length-drop, drop-append-le, drop_more}
use Rattle.brace_pieces.specs.declared.piece.Piece.{Piece}
use Rattle.brace_core.specs.declared.name.Name.{Name}
use Rattle.brace_wire.specs.declared.frame.Frame.{Frame}
use Rattle.brace_wire.specs.declared.fate.Fate.{Fate}
use Rattle.brace_wire.specs.declared.fate.Fate.TheVariants.{Deliver, Twice, After}
use Rattle.brace_wire.specs.declared.kept.Kept.{Kept}
use Rattle.brace_wire.specs.Net.{Carried, Lane, opening, Event, IsAllowed, carried, place_back, after_hand, after, Reaches, Happens}
use Rattle.brace_wire.specs.Links.{OnReceiver, OnLink, received, with_put, accepted, fate_of, at_once, late_of, sent_at_once, sent_late, sent_again, after_round}
use Rattle.brace_wire.specs.Shown.{carried_by, WasSent, IsBack, Shows, ShowsLater}
use Rattle.brace_wire.specs.inner.Standing.{frames_of, held, HasPlace}
use Rattle.brace_wire.proofs.AcceptLemmas.{accepted_by}
use Rattle.brace_wire.proofs.StreamLemmas.{all_append}
use Rattle.brace_wire.proofs.NetLemmas.{all_at, IsPut, Sound, sound, get_more, there}

-- ---- lists

pub get_last : {A : Type 0} (xs : List A) (x : A) → slice_get (xs ++ x ∷ []) (length xs) ≡ Some x
get_last [] x = refl
get_last (y ∷ ys) x = get_last ys x

get_before : {A : Type 0} (xs ys : List A) (i : ℕ) (x : A) → slice_get xs i ≡ Some x → slice_get (xs ++ ys) i ≡ Some x
get_before [] ys i x e = absurd cc
get_before (z ∷ xs) ys zero x e = e
get_before (z ∷ xs) ys (suc i) x e = get_before xs ys i x e

pub get_dropped : {A : Type 0} (xs : List A) (i : ℕ) (x : A) (rest : List A) → drop i xs ≡ x ∷ rest → slice_get xs i ≡ Some x
get_dropped [] zero x rest e = absurd cc
get_dropped [] (suc i) x rest e = absurd cc
get_dropped (y ∷ ys) zero x rest e = cc
get_dropped (y ∷ ys) (suc i) x rest e = get_dropped ys i x rest e

pub get_taken : {A : Type 0} (n : ℕ) (xs : List A) (i : ℕ) (x : A) → slice_get (take n xs) i ≡ Some x → slice_get xs i ≡ Some x
get_taken zero xs i x e = absurd cc
get_taken (suc n) [] i x e = absurd cc
get_taken (suc n) (y ∷ ys) zero x e = e
get_taken (suc n) (y ∷ ys) (suc i) x e = get_taken n ys i x e

pub all_map : {A : Type 0} (P Q : A → Type 0) (xs : List A) → ((x : A) → P x → Q x) → AllByRecursion P xs → AllByRecursion Q xs
all_map P Q [] f h = tt
all_map P Q (x ∷ xs) f h = (f x h.0, all_map P Q xs f h.1)

-- ---- events one after another

pub reaches_on : {F : Type 0} (a b c : Lane F) → Reaches a b → Reaches b c → Reaches a c
reaches_on a b _ h Reaches.begin = h
reaches_on a b _ h (Reaches.next later e before allowed) = Reaches.next later e (reaches_on a b later h before) allowed

-- ---- a put

back_more : (puts : List Piece) (piece : Piece) (n : ℕ) (o : Option Kept) → IsBack puts n o → IsBack (puts ++ piece ∷ []) (n + 1) o
back_more puts piece n None h = omega (arith, h, length-append puts (piece ∷ []))
back_more puts piece n (Some k) h = (omega (arith, h.0, length-append puts (piece ∷ [])), get_more puts piece k.frame.ordinal k.frame.piece h.1)

module _ (link : OnLink) (lane : Lane Piece) (happens : Happens lane) (shows : Shows link lane) where
  is_sound : Sound lane
  is_sound = sound lane happens

  pub all_received : received link.receiver ≡ length lane.received
  all_received = omega (arith, shows.taken, ap length shows.waiting, length-drop lane.taken lane.received, is_sound.taken)

  pub shows_put : (name : Name) (piece : Piece) → length lane.puts < lane.taken + 2 → ShowsLater (piece ∷ []) lane (with_put link name piece)
  shows_put name piece lt = record {
    later = after lane (Event.put piece);
    reaches = Reaches.next lane (Event.put piece) Reaches.begin (IsAllowed.put piece lt);
    puts = refl;
    shows = record {
      put = omega (arith, shows.put, length-append lane.puts (piece ∷ []));
      older = back_more lane.puts piece 1 link.newer shows.newer;
      newer = (omega (arith, shows.put, length-append lane.puts (piece ∷ [])), ap (slice_get (lane.puts ++ piece ∷ [])) shows.put ∙ get_last lane.puts piece);
      late = shows.late;
      taken = shows.taken;
      waiting = shows.waiting;
    };
  }

  -- ---- a take

  pub shows_take : (piece : Piece) (rest : List Piece) → link.receiver.waiting ≡ piece ∷ rest
      → ShowsLater [] lane (record link { receiver = record { taken = link.receiver.taken + 1; waiting = rest } })
  shows_take piece rest e =
      let lt : lane.taken < length lane.received = omega (arith, ap length e, ap length shows.waiting, length-drop lane.taken lane.received) in
      record {
        later = after lane Event.take_next;
        reaches = Reaches.next lane Event.take_next Reaches.begin (IsAllowed.take_next lt);
        puts = sym (append-nil lane.puts);
        shows = record {
          put = shows.put;
          older = shows.older;
          newer = shows.newer;
          late = shows.late;
          taken = ap (λ n. n + 1) shows.taken;
          waiting = ap (drop 1) (sym e ∙ shows.waiting ∙ drop_more lane.received lane.taken piece lt);
        };
      }

  -- the piece that is taken was put at its place
  pub taken_was_put : (piece : Piece) (rest : List Piece) → link.receiver.waiting ≡ piece ∷ rest → slice_get lane.puts link.receiver.taken ≡ Some piece
  taken_was_put piece rest e =
      let was : slice_get lane.received lane.taken ≡ Some piece = get_dropped lane.received lane.taken piece rest (sym shows.waiting ∙ e) in
      ap (slice_get lane.puts) shows.taken
      ∙ get_taken (length lane.received) lane.puts lane.taken piece (ap (λ l. slice_get l lane.taken) (sym is_sound.in_order) ∙ was)

  -- ---- what may be handed over has a place

  pub sent_has_place : (f : Frame) → WasSent lane.sent f → f.ordinal < link.receiver.taken + 2
  sent_has_place f w =
      let was : slice_get lane.puts f.ordinal ≡ Some f.piece = all_at (IsPut lane.puts) lane.sent w.place (carried_by f) is_sound.sent w.is in
      omega (arith, there lane.puts f.ordinal f.piece was, shows.taken, is_sound.few)

  kept_has_place : (n : ℕ) (o : Option Kept) → 1 ≤ n → IsBack lane.puts n o → HasPlace link.receiver.taken (frames_of o)
  kept_has_place n None some h = tt
  kept_has_place n (Some k) some h = (omega (arith, h.0, shows.taken, is_sound.few), tt)

  pub held_has_place : HasPlace link.receiver.taken (held link)
  held_has_place =
      let P : Frame → Type 0 = λ f. f.ordinal < link.receiver.taken + 2 in
      all_append P (frames_of link.older) (frames_of link.newer ++ link.late) (kept_has_place 2 link.older (omega arith) shows.older)
      (all_append P (frames_of link.newer) link.late (kept_has_place 1 link.newer (omega arith) shows.newer)
      (all_map (WasSent lane.sent) P link.late sent_has_place shows.late))

-- ---- sendings

-- a lane on which some frames were sent
pub record Sent (lane : Lane Piece) (frames : List Frame) : Type 0 where
  pub all_sent : List (Carried Piece)
  pub reaches : Reaches lane (record lane { sent = all_sent })
  pub each : AllByRecursion (WasSent all_sent) frames
  pub grows : (f : Frame) → WasSent lane.sent f → WasSent all_sent f

sent_last : (sent : List (Carried Piece)) (f : Frame) (place : ℕ) (o : Option Piece) → place ≡ f.ordinal → o ≡ Some f.piece
    → slice_get (sent ++ carried place o) (length sent) ≡ Some (carried_by f)
sent_last sent f place o at is =
    ap (λ (q : Option Piece). slice_get (sent ++ carried place q) (length sent)) is
    ∙ get_last sent (record { ordinal = place; piece = f.piece })
    ∙ ap (λ n. Some (record { ordinal = n; piece = f.piece })) at

send : (lane : Lane Piece) (back : ℕ) (o : Option Kept) → back < 2 → IsBack lane.puts (back + 1) o → Sent lane (frames_of o)
send lane back None near h = record { all_sent = lane.sent; reaches = Reaches.begin; each = tt; grows = λ f w. w }
send lane back (Some k) near h =
    let place : place_back lane back ≡ k.frame.ordinal = omega (arith, h.0) in
    let more : List (Carried Piece) = carried (place_back lane back) (slice_get lane.puts (place_back lane back)) in
    record {
      all_sent = lane.sent ++ more;
      reaches = Reaches.next lane (Event.send back) Reaches.begin (IsAllowed.send back near (omega (arith, h.0)));
      each = (record { place = length lane.sent; is = sent_last lane.sent k.frame (place_back lane back) (slice_get lane.puts (place_back lane back)) place (ap (slice_get lane.puts) place ∙ h.1) }, tt);
      grows = λ f w. record { place = w.place; is = get_before lane.sent more w.place (carried_by f) w.is };
    }

-- ---- hands

-- a link after some frames were handed over on a lane
pub record Handed (lane : Lane Piece) (link : OnLink) (frames : List Frame) : Type 0 where
  pub all_received : List Piece
  pub reaches : Reaches lane (record lane { received = all_received })
  pub shows : Shows (record link { receiver = fold accepted link.receiver frames }) (record lane { received = all_received })

hand_by : (link : OnLink) (lane : Lane Piece) → Happens lane → Shows link lane → (f : Frame) → WasSent lane.sent f → (b : Bool) → eqb f.ordinal (received link.receiver) ≡ b → Handed lane link (f ∷ [])
hand_by link lane happens shows f w true e =
    let test : eqb f.ordinal (length lane.received) ≡ true = ap (eqb f.ordinal) (sym (all_received link lane happens shows)) ∙ e in
    let one : after lane (Event.hand w.place) ≡ record lane { received = lane.received ++ f.piece ∷ [] } =
    ap (after_hand lane) w.is ∙ ap (λ (t : Bool). if t then record lane { received = lane.received ++ f.piece ∷ [] } else lane) test in
    record {
      all_received = lane.received ++ f.piece ∷ [];
      reaches = subst (λ (l : Lane Piece). Reaches lane l) one (Reaches.next lane (Event.hand w.place) Reaches.begin (IsAllowed.hand w.place (there lane.sent w.place (carried_by f) w.is)));
      shows = subst (λ (r : OnReceiver). Shows (record link { receiver = r }) (record lane { received = lane.received ++ f.piece ∷ [] })) (sym (accepted_by link.receiver f true e))
          (record {
            put = shows.put;
            older = shows.older;
            newer = shows.newer;
            late = shows.late;
            taken = shows.taken;
            waiting = ap (λ (ps : List Piece). ps ++ f.piece ∷ []) shows.waiting ∙ sym (drop-append-le lane.taken lane.received (f.piece ∷ []) (sound lane happens).taken);
          });
    }
hand_by link lane happens shows f w false e = record {
  all_received = lane.received;
  reaches = Reaches.begin;
  shows = subst (λ (r : OnReceiver). Shows (record link { receiver = r }) lane) (sym (accepted_by link.receiver f false e)) shows;
}

hand_all : (link : OnLink) (lane : Lane Piece) → Happens lane → Shows link lane → (frames : List Frame) → AllByRecursion (WasSent lane.sent) frames → Handed lane link frames
hand_all link lane happens shows [] all = record { all_received = lane.received; reaches = Reaches.begin; shows = shows }
hand_all link lane happens shows (f ∷ frames) all =
    let one = hand_by link lane happens shows f all.0 (eqb f.ordinal (received link.receiver)) refl in
    let now : Lane Piece = record lane { received = one.all_received } in
    let more = hand_all (record link { receiver = accepted link.receiver f }) now (reaches_on opening lane now happens one.reaches) one.shows frames all.1 in
    record {
      all_received = more.all_received;
      reaches = reaches_on lane now (record lane { received = more.all_received }) one.reaches more.reaches;
      shows = more.shows;
    }

-- ---- a round

once_sent : (sent : List (Carried Piece)) (fate : Fate) (f : Frame) → WasSent sent f → AllByRecursion (WasSent sent) (at_once fate f)
once_sent sent Deliver f w = (w, tt)
once_sent sent Twice f w = (w, (w, tt))
once_sent sent _ f w = tt

late_sent : (sent : List (Carried Piece)) (fate : Fate) (f : Frame) → WasSent sent f → AllByRecursion (WasSent sent) (late_of fate f)
late_sent sent After f w = (w, tt)
late_sent sent _ f w = tt

once_kept : (sent : List (Carried Piece)) (fates : List Fate) (o : Option Kept) → AllByRecursion (WasSent sent) (frames_of o) → AllByRecursion (WasSent sent) (sent_at_once fates o)
once_kept sent fates None h = tt
once_kept sent fates (Some k) h = once_sent sent (fate_of fates k.sent) k.frame h.0

late_kept : (sent : List (Carried Piece)) (fates : List Fate) (o : Option Kept) → AllByRecursion (WasSent sent) (frames_of o) → AllByRecursion (WasSent sent) (sent_late fates o)
late_kept sent fates None h = tt
late_kept sent fates (Some k) h = late_sent sent (fate_of fates k.sent) k.frame h.0

back_again : (puts : List Piece) (n : ℕ) (o : Option Kept) → IsBack puts n o → IsBack puts n (sent_again o)
back_again puts n None h = h
back_again puts n (Some k) h = h

pub shows_round : (fates : List Fate) (link : OnLink) (lane : Lane Piece) → Happens lane → Shows link lane → ShowsLater [] lane (after_round fates link)
shows_round fates link lane happens shows =
    let one = send lane 1 link.older (omega arith) shows.older in
    let first : Lane Piece = record lane { sent = one.all_sent } in
    let two = send first 0 link.newer (omega arith) shows.newer in
    let both : Lane Piece = record lane { sent = two.all_sent } in
    let all = two.all_sent in
    let older : AllByRecursion (WasSent all) (frames_of link.older) = all_map (WasSent one.all_sent) (WasSent all) (frames_of link.older) two.grows one.each in
    let came : AllByRecursion (WasSent all) link.late = all_map (WasSent lane.sent) (WasSent all) link.late (λ f w. two.grows f (one.grows f w)) shows.late in
    let there = reaches_on lane first both one.reaches two.reaches in
    let held_now : Shows link both = record { put = shows.put; older = shows.older; newer = shows.newer; late = came; taken = shows.taken; waiting = shows.waiting } in
    let frames : List Frame = sent_at_once fates link.older ++ (sent_at_once fates link.newer ++ link.late) in
    let hands = hand_all link both (reaches_on opening lane both happens there) held_now frames
    (all_append (WasSent all) (sent_at_once fates link.older) (sent_at_once fates link.newer ++ link.late) (once_kept all fates link.older older)
    (all_append (WasSent all) (sent_at_once fates link.newer) link.late (once_kept all fates link.newer two.each) came)) in
    record {
      later = record both { received = hands.all_received };
      reaches = reaches_on lane both (record both { received = hands.all_received }) there hands.reaches;
      puts = sym (append-nil lane.puts);
      shows = record {
        put = shows.put;
        older = back_again lane.puts 2 link.older shows.older;
        newer = back_again lane.puts 1 link.newer shows.newer;
        late = all_append (WasSent all) (sent_late fates link.older) (sent_late fates link.newer) (late_kept all fates link.older older) (late_kept all fates link.newer two.each);
        taken = hands.shows.taken;
        waiting = hands.shows.waiting;
      };
    }
