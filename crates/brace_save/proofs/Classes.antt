-- The lines of classes, read one by one.
use Rattle.std.proofs.Common.{◌≡◌, ◌∙◌, ℕ, ◌+◌, ◌<◌, ◌≤◌, List, [], ◌∷◌, ◌++◌, length, take, drop, map, get_or, Bool, true, false, refl, sym, ap, subst, arith, append-nil, append_assoc, Err}
use Rattle.std.proofs.lemmas.List.{get_or-map, get_or_append_left, get_or-append-add, length-append, length-map, map-append, map_more, take-append-drop, take_all}
use Rattle.brace_model.specs.declared.program.Class.{Class}
use Rattle.brace_model.specs.declared.program.Program.{Program}
use Rattle.brace_model.specs.Published.{agent_text}
use Rattle.brace_save.specs.declared.kinds.PointFault.TheVariants.{Incomplete, OtherClasses}
use Rattle.brace_save.specs.declared.read.Heading.{Heading}
use Rattle.brace_save.specs.Texts.{Moment, IsMoment, class_line, end_line, heading, lines}
use Rattle.brace_save.specs.Lines.{Begin, IsRead, heading_length}
use Rattle.brace_save.specs.inner.Steps.{IsHeading, IsFront, line, place, version, told, front}
use Rattle.brace_save.proofs.Begins.{bare_is, bad_at, cut_at, front_begins, one_more, line_same, line_in, version_same, place_is, place_range, fault_of_class, heading_long, whole_long}

-- the first lines are those of the heading and of the first so many classes
abbrev pub Stand : Program → Heading → ℕ → List (List ℕ) → Type 0
Stand program h j all = take (place h.tells_next + j) all ≡ heading h.tells_next (told h []) ++ map class_line (take j program.classes)

-- one class more stands in its place
pub stand_more : (program : Program) (h : Heading) (all : List (List ℕ)) (j : ℕ) (d : Class) → Stand program h j all → j < length program.classes → place h.tells_next + j < length all
    → line all (place h.tells_next + j) ≡ class_line (get_or program.classes j d) → Stand program h (j + 1) all
stand_more program h all j d e below in_lines is =
    let top = heading h.tells_next (told h []) in
    let text = class_line (get_or program.classes j d) in
    let same : place h.tells_next + j + 1 ≡ place h.tells_next + (j + 1) = omega arith in
    subst (λ n. take n all ≡ top ++ map class_line (take (j + 1) program.classes)) same
    (one_more all (top ++ map class_line (take j program.classes)) (place h.tells_next + j) text e in_lines is
    ∙ append_assoc top (map class_line (take j program.classes)) (text ∷ [])
    ∙ ap (λ l. top ++ l) (sym (map_more class_line program.classes j d below)))

pub told_first : (all : List (List ℕ)) (h : Heading) → IsHeading all h → line all 0 ≡ version h.tells_next
told_first all h is =
    let places = place_range h.tells_next in
    line_in all (heading h.tells_next (told h [])) (place h.tells_next) 0 is.same (omega (arith, places.0)) ∙ of h.tells_next (told h [])
  where
    of : (b : Bool) (m : Moment) → line (heading b m) 0 ≡ version b
    of true m = refl
    of false m = refl

pub told_is : (program : Program) (all : List (List ℕ)) (h : Heading) → IsHeading all h → IsMoment program h.tells_next (told h [])
told_is program all h is = bare_is program h.tells_next h.tick h.seed h.next is.tick_in_range is.seed_in_range is.next_in_range

classes_begin : (program : Program) (h : Heading) (all : List (List ℕ)) (j : ℕ) → IsHeading all h → Stand program h j all → Begin program (take (place h.tells_next + j) all)
classes_begin program h all j is e =
    let b = h.tells_next in
    let top = heading b (told h []) in
    let before = map class_line (take j program.classes) in
    let behind = map class_line (drop j program.classes) in
    let end = end_line [] ∷ [] in
    let both : before ++ behind ≡ map class_line program.classes = sym (map-append class_line (take j program.classes) (drop j program.classes)) ∙ ap (map class_line) (take-append-drop j program.classes) in
    front_begins program b (told h []) (take (place b + j) all) (behind ++ end) (told_is program all h is)
    (ap (λ l. l ++ (behind ++ end)) e ∙ sym (append_assoc (top ++ before) behind end)
    ∙ ap (λ l. l ++ end) (append_assoc top before behind ∙ ap (λ l. top ++ l) both ∙ sym (append-nil (top ++ map class_line program.classes))))

-- the line of a class in any checkpoint
class_at : (program : Program) (b : Bool) (m : Moment) (j : ℕ) (d : Class) → j < length program.classes → line (lines program b m) (place b + j) ≡ class_line (get_or program.classes j d)
class_at program b m j d below =
    let top = heading b m in
    let classes = map class_line program.classes in
    let agents = map (agent_text program) m.world.agents in
    let long : length top ≡ place b = heading_long b m in
    let many = length-map program.classes class_line in
    let two = length-append top classes in
    let three = length-append (top ++ classes) agents in
    get_or_append_left ((top ++ classes) ++ agents) (end_line m.world.agents ∷ []) [] (place b + j) (omega (arith, long, many, two, three, below))
    ∙ get_or_append_left (top ++ classes) agents [] (place b + j) (omega (arith, long, many, two, below))
    ∙ ap (λ n. get_or (top ++ classes) (n + j) []) (sym long)
    ∙ get_or-append-add top classes j [] ∙ get_or-map class_line program.classes j d [] below

pub class_bad : (program : Program) (h : Heading) (all : List (List ℕ)) (rest : List ℕ) (j : ℕ) (d : Class) → IsHeading all h → Stand program h j all → j < length program.classes
    → place h.tells_next + j < length all → (line all (place h.tells_next + j) ≡ class_line (get_or program.classes j d) → ⊥) → IsRead program all rest (Err OtherClasses)
class_bad program h all rest j d is e below in_lines differs =
    let b = h.tells_next in
    let first = told_first all h is in
    let places = place_range b in
    let at : heading_length all ≡ place b = place_is all b first in
    bad_at program all rest (place b + j) OtherClasses in_lines (classes_begin program h all j is e)
    (λ begun.
    let (m, more, are) = begun in
    let c = are.tells_next in
    let same : c ≡ b = version_same program all more b c m (place b + j + 1) are.same (omega arith) (omega (arith, in_lines)) first in
    let told : take (place b + j + 1) all ++ more ≡ lines program b m = subst (λ x. take (place b + j + 1) all ++ more ≡ lines program x m) same are.same in
    differs (sym (line_same all more (lines program b m) (place b + j + 1) (place b + j) told (omega arith) (omega (arith, in_lines))) ∙ class_at program b m j d below))
    (fault_of_class program all (place b + j + 1) (omega (arith, places.0)) (omega (arith, at)) (omega (arith, at, below)))

pub class_missing : (program : Program) (h : Heading) (all : List (List ℕ)) (rest : List ℕ) (j : ℕ) → IsHeading all h → Stand program h j all → j < length program.classes
    → length all ≤ place h.tells_next + j → IsRead program all rest (Err Incomplete)
class_missing program h all rest j is e below over =
    let places = place_range h.tells_next in
    cut_at program all rest (place h.tells_next + j) over (classes_begin program h all j is e)
    (λ whole. let long = whole_long program all h.tells_next whole (told_first all h is) (omega (arith, is.there, places.0)) in absurd (omega (arith, long, below, over)))
