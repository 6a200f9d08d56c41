-- What a run by parts came to whose publisher writes rows and saves checkpoints and figures: it carried its outcome out, or stopped in it.
use Rattle.std.proofs.Common.{◌≡◌, ◌∙◌, refl, sym, ap, ap₂, subst, ℕ, zero, suc, ◌+◌, ◌≤◌, List, [], ◌∷◌, ◌++◌, flat_map, fold, take, drop, take_all, take-append-drop, length, append_assoc, Bool, true, false, Option, Some, None, Result, Ok, Err, All, Bor, slice_get, inl, inr, arith}
use Rattle.std.specs.Prelude.{option_map}
use Rattle.std.proofs.Math.Seq.{take-append_seam}
use Rattle.std.proofs.lemmas.Grind.{flat_map-append}
use Rattle.std.proofs.lemmas.List.{append-nil, length-append, map-append}
use Rattle.std.proofs.lemmas.List.Elements.{All-weaker}
use Rattle.std.proofs.lemmas.List.Sums.{fold-append}
use Rattle.brace_io.specs.declared.sink.Sink as sink_trait
use Rattle.brace_io.specs.Counts.{Rose}
use Rattle.brace_io.specs.Shelves.{Files, Stage, StoppedAt}
use Rattle.brace_io.specs.Sinks.{with_piece, Gains, GainsFront}
use Rattle.brace_model.specs.declared.program.Program.{Program}
use Rattle.brace_model.specs.World.{World}
use Rattle.brace_model.specs.Run.{first_fault}
use Rattle.brace_pieces.specs.declared.setting.Setting.{Setting}
use Rattle.brace_pieces.specs.Settings.{LawfulSetting}
use Rattle.brace_pieces.specs.declared.counts.Counts.{Counts}
use Rattle.brace_crew.specs.declared.crew.CrewFault.{CrewFault}
use Rattle.brace_crew.specs.declared.crew.CrewFault.TheVariants as crew
use Rattle.brace_desk.specs.declared.publisher.Publisher as publisher
use Rattle.brace_desk.specs.declared.publisher.PubFault.{PubFault}
use Rattle.brace_desk.specs.declared.publisher.PubFault.TheVariants as refusal
use Rattle.brace_desk.specs.declared.watch_publisher.WatchPublisher.{WatchPublisher}
use Rattle.brace_desk.specs.declared.keeper.Keeper as keeper_trait
use Rattle.brace_desk.specs.Calls.{Call, calls, behind, Rises}
use Rattle.brace_crew.specs.Came.{CameBy, CameTo}
use Rattle.brace_desk.specs.Calls as crews
use Rattle.brace_desk.specs.Filed.{Filed, with_file, held_after, with_rows, StopsAt, StopsAtAny, WroteFront, StoppedSaving, after_epoch}
use Rattle.brace_desk.specs.Refusals.{tick_of}
use Rattle.brace_desk.specs.Shows.{Named, shown_text, file_name, checkpoint_file, saved_file, saved_world}
use Rattle.brace_desk.specs.Watched.{Watching, figures_text, watched_file, figures_file, after_watched, IsCut}
use Rattle.brace_watch.specs.declared.kinds.Watch.{Watch}
use Rattle.brace_watch.specs.Watches.{AreWatches}
use Rattle.brace_desk.proofs.RiseLemmas.{rose_from}
use Rattle.brace_desk.proofs.TextLemmas.{all_told}
use Rattle.brace_command.specs.declared.answer.Answer.{Answer}
use Rattle.brace_command.specs.declared.answer.Stopped.{Stopped}
use Rattle.brace_command.specs.declared.answer.Stopped.TheVariants as stopped
use Rattle.brace_command.specs.declared.status.Status.{Status}
use Rattle.brace_command.specs.declared.status.Status.TheVariants.{Done, Fault, WriteFault, SaveFault, NoMemory}
use Rattle.brace_command.specs.declared.task.Task.{Task}
use Rattle.brace_command.specs.declared.command.TrialCommand.{TrialCommand as CodeTrial}
use Rattle.brace_command.specs.Answer.{ShelfCall, SinkCall, sink_call, IsBehind, HasSaved, IsHalfSaved, LeavesFront, IsHalted, CountsShelf, CountsWrites}
use Rattle.brace_command.specs.Messages.{fault_message, save_fault_message, no_memory_message}
use Rattle.brace_command.specs.Outcome.{Outcome, end_status, end_message, ran}
use Rattle.brace_command.specs.Savings.{Saves, Saving, with_saved}
use Rattle.brace_command.specs.Status.{has_run}
use Rattle.brace_command.specs.Settled.{stopped_status, stopped_message, status_in, message_in, told_counts, keeper_call, saves_in, saves_files, outcome_of, outcome_by, IsCarriedOut, IsRunOf}
use Rattle.brace_top.specs.inner.Settled.{IsUnsavedAs, IsRefusedBy, IsSettled}
use Rattle.brace_command.proofs.SavedLemmas.{text_of, listed, files_of, no_files_of, saving_of, saving_in, saved_by, saved_by-append, saves_none, StandsIn, stand_in, calls_save}
use Rattle.brace_command.proofs.AnswerGives.{counts_told, told_gives, stop_gives, stopped_gives}
use Rattle.brace_top.proofs.SettleLemmas.{both_none, name_in, no_name, unsaved_gives, settled_gives, settled_work, settled_plain}
use Rattle.brace_command.proofs.StatusLemmas.{work_reads}
use Rattle.brace_io.proofs.WholeLemmas.{with_piece-twice}
use Rattle.brace_num.proofs.Lists.{at_seam}
use Rattle.brace_command.proofs.NoneLemmas.{piece_none, runs}

-- ---- what a publisher is behind some calls

held_listed : (text : List ℕ) (file : Option Named) (held : Option Files) (files : Files) → held ≡ Some files → held_after file held ≡ Some (with_saved files (saving_in text (listed file)))
held_listed text None held files is = is
held_listed text (Some file) held files is = ap (option_map (with_file file)) is

held_both : (text : List ℕ) (a b : Option Named) (held : Option Files) (files : Files) → held ≡ Some files
    → held_after b (held_after a held) ≡ Some (with_saved files (saving_in text (listed a ++ listed b)))
held_both text None b held files is = held_listed text b held files is
held_both text (Some a) None held files is = ap (option_map (with_file a)) is
held_both text (Some a) (Some b) held files is = ap (λ h. option_map (with_file b) (option_map (with_file a) h)) is

-- what one more call leaves
abbrev pub after_call : Setting → Watching → Call → Watching
after_call s x c = after_watched x s c.tick c.worlds

-- what a publisher saves
abbrev pub saves_by : Watching → Saves
saves_by x = record { save = x.filed.save; watch = x.name; watches = x.watches }

-- a publisher that made some calls wrote their rows and saved their files
pub record IsAfter (s : Setting) (x y : Watching) (cs : List Call) : Type 0 where
  pub saves : saves_by y ≡ saves_by x
  pub fresh : y.filed.fresh ≡ x.filed.fresh
  pub written : y.filed.written ≡ with_piece x.filed.written (flat_map (text_of s x.filed.fresh) cs)
  pub held : (text : List ℕ) (files : Files) → x.filed.held ≡ Some files → y.filed.held ≡ Some (with_saved files (saved_by s (saves_by x) x.filed.fresh text cs))
  pub clean : x.filed.clean ≡ true → y.filed.clean ≡ true

pub is_after : (s : Setting) (x : Watching) (cs : List Call) → IsAfter s x (fold (after_call s) x cs) cs
is_after s x [] = record {
  saves = refl;
  fresh = refl;
  written = piece_none x.filed.written;
  held = λ text files is. is;
  clean = λ is. is;
}
is_after s x (c ∷ cs) =
    let h = is_after s (after_call s x c) cs in
    let piece : List ℕ = text_of s x.filed.fresh c in
    record {
      saves = h.saves;
      fresh = h.fresh;
      written = h.written ∙ with_piece-twice x.filed.written piece (flat_map (text_of s x.filed.fresh) cs);
      held = λ text files is.
          let one : List Saving = saving_in (text ++ piece) (files_of s (saves_by x) x.filed.fresh c) in
          h.held (text ++ piece) (with_saved files one)
          (held_both (text ++ piece) (saved_file x.filed.save s c.tick c.worlds) (figures_file x s c.tick c.worlds) x.filed.held files is)
          ∙ ap Some (sym (fold-append (λ (held : Files) (saving : Saving). with_file saving.file held) files one (saved_by s (saves_by x) x.filed.fresh (text ++ piece) cs)));
      clean = λ is. h.clean refl;
    }

-- ---- lists

-- an item at a place, and what is behind it
item_at : {A : Type 0} (xs : List A) (n : ℕ) (x : A) → slice_get xs n ≡ Some x → (rest : List A) × (drop n xs ≡ x ∷ rest)
item_at [] n x is = absurd (cc)
item_at (y ∷ xs) zero x is = let same : y ≡ x = cc in (xs, ap (λ z. z ∷ xs) same)
item_at (y ∷ xs) (suc n) x is = item_at xs n x is

-- a front of a text was written
front_of : (before after : Option (List ℕ)) (a rest text : List ℕ) → text ≡ a ++ rest → Gains before after a → GainsFront before after text
front_of before after a rest text is gained =
    let size : length text ≡ length a + length rest = ap length is ∙ length-append a rest in
    (length a, (omega (arith, size), gained ∙ ap (with_piece before) (sym (ap (take (length a)) is ∙ take-append_seam a rest))))

-- a file that is saved has its name
has_name : (of : World → Named) (name : List ℕ) (file : Named) (world : Option World) → ((w : World) → (of w).0 ≡ name) → option_map of world ≡ Some file → file.0 ≡ name
has_name of name file None named is = absurd (cc)
has_name of name file (Some w) named is = let same : of w ≡ file = cc in sym (ap (λ (f : Named). f.0) same) ∙ named w

checkpoint_named : (s : Setting) (save : Option (List ℕ)) (c : Call) (name : List ℕ) (file : Named) → save ≡ Some name → saved_file save s c.tick c.worlds ≡ Some file → file.0 ≡ file_name name c.tick
checkpoint_named s save c name file named is =
    has_name (checkpoint_file name s c.tick) (file_name name c.tick) file (saved_world s c.tick c.worlds) (λ w. refl) (sym (ap (λ v. saved_file v s c.tick c.worlds) named) ∙ is)

figures_named : (s : Setting) (saves : Saves) (fresh : Bool) (c : Call) (name : List ℕ) (file : Named) → saves.watch ≡ Some name
    → watched_file saves.watch saves.watches fresh s c.tick c.worlds ≡ Some file → file.0 ≡ file_name name c.tick
figures_named s saves fresh c name file named is =
    has_name (λ (w : World). (file_name name c.tick, figures_text s fresh saves.watches c.worlds)) (file_name name c.tick) file (saved_world s c.tick c.worlds) (λ w. refl)
    (sym (ap (λ v. watched_file v saves.watches fresh s c.tick c.worlds) named) ∙ is)

not_empty : (front : List Named) (file : Named) (behind : List Named) → [] ≡ front ++ file ∷ behind → ⊥
not_empty [] file behind e = absurd (cc)
not_empty (f ∷ front) file behind e = absurd (cc)

-- ---- what stands on the sink and on the shelf

module _ (s : Setting) (lawful : LawfulSetting s) (up : s.job.first ≤ s.job.last) (stats : Bool) (x : Watching) (files : Files) where
  abbrev saves : Saves
  saves = saves_by x

  abbrev fresh : Bool
  fresh = x.filed.fresh

  abbrev its : Outcome
  its = ran stats saves fresh s

  abbrev piece : Call → List ℕ
  piece = text_of s fresh

  -- the rows of the first calls
  abbrev text : ℕ → List ℕ
  text n = flat_map piece (take n (calls s))

  -- their files
  abbrev saved : ℕ → List Saving
  saved n = saved_by s saves fresh [] (take n (calls s))

  -- the publisher behind them
  abbrev after : ℕ → Watching
  after n = fold (after_call s) x (take n (calls s))

  out_is : (n : ℕ) → its.out ≡ text n ++ flat_map piece (drop n (calls s))
  out_is n = sym (all_told s fresh lawful up) ∙ ap (flat_map piece) (sym (take-append-drop n (calls s))) ∙ flat_map-append piece (take n (calls s)) (drop n (calls s))

  saved_is : (n : ℕ) → its.saved ≡ saved n ++ saved_by s saves fresh (text n) (drop n (calls s))
  saved_is n =
      sym (calls_save s saves fresh lawful up) ∙ ap (saved_by s saves fresh []) (sym (take-append-drop n (calls s)))
      ∙ saved_by-append s saves fresh [] (take n (calls s)) (drop n (calls s))

  taken : (n : ℕ) → take (length (saved n)) its.saved ≡ saved n
  taken n = ap (take (length (saved n))) (saved_is n) ∙ take-append_seam (saved n) (saved_by s saves fresh (text n) (drop n (calls s)))

  is_later : (n : ℕ) → IsAfter s x (after n) (take n (calls s))
  is_later n = is_after s x (take n (calls s))

  -- the files of the first calls are saved, and all text before them is written
  has_saved : (n : ℕ) (shelf : ShelfCall) (out : SinkCall) (more : List ℕ) → Gains out.before out.after (text n ++ more) → shelf.held_after ≡ Some (with_saved files (saved n)) → HasSaved files shelf out its
  has_saved n shelf out more gained held = record {
    count = length (saved n);
    holds = held ∙ ap (λ (l : List Saving). Some (with_saved files l)) (sym (taken n));
    behind =
        subst (All (IsBehind out)) (sym (taken n))
        (All-weaker (StandsIn (text n)) (IsBehind out)
        (λ saving h. let (rest, is) = h in (rest ++ more, gained ∙ ap (with_piece out.before) (ap (λ (l : List ℕ). l ++ more) is ∙ append_assoc saving.behind rest more)))
        (saved n) (stand_in s saves fresh [] (take n (calls s))));
  }

  -- the sink of a publisher before and after, and the shelf: it holds the files that were saved, and stopped at one that was not
  pub record Stands (shelf : ShelfCall) (out : SinkCall) (y : Watching) : Type 0 where
    pub held : (n : ℕ) → y.filed.held ≡ (after n).filed.held → shelf.held_after ≡ Some (with_saved files (saved n))
    pub stops : (c : Call) (front : List Named) (file : Named) (behind : List Named) → files_of s saves fresh c ≡ front ++ file ∷ behind
        → (before : Option Files) (done : List Saving) → (x.filed.held ≡ Some files → before ≡ Some (with_saved files done))
        → StopsAt before y.filed.held y.filed.stage file → StopsAt (Some (with_saved files done)) shelf.held_after shelf.stage file
    pub sink_before : out.before ≡ x.filed.written
    pub sink_after : out.after ≡ y.filed.written

  -- the shelf is the publisher's
  pub kept_stands : (shelf : ShelfCall) (out : SinkCall) (y : Watching) → x.filed.held ≡ Some files → shelf.held_after ≡ y.filed.held → shelf.stage ≡ y.filed.stage
      → out.before ≡ x.filed.written → out.after ≡ y.filed.written → Stands shelf out y
  kept_stands shelf out y told held stage sink_before now = record {
    held = λ n is. held ∙ is ∙ later n;
    stops = λ c front file behind of before done is stops.
        subst (λ (b : Option Files). StopsAt b shelf.held_after shelf.stage file) (is told)
        (subst (λ (a : Option Files). StopsAt before a shelf.stage file) (sym held)
        (subst (λ stage. StopsAt before y.filed.held stage file) (sym stage) stops));
    sink_before = sink_before;
    sink_after = now;
  }
    where
      later : (n : ℕ) → (after n).filed.held ≡ Some (with_saved files (saved n))
      later n = let made = is_later n in made.held [] files told

  -- the publisher saves nothing, and the shelf is as it was
  pub bare_stands : (shelf : ShelfCall) (out : SinkCall) (y : Watching) → saves_files saves ≡ false → shelf.held_after ≡ Some files
      → out.before ≡ x.filed.written → out.after ≡ y.filed.written → Stands shelf out y
  bare_stands shelf out y bare held sink_before now =
      let (no_save, no_watch) = both_none saves.save saves.watch bare in
      record {
        held = λ n is. held ∙ ap (λ (l : List Saving). Some (with_saved files l)) (sym (saves_none s saves fresh [] (take n (calls s)) no_save no_watch));
        stops = λ c front file behind of before done is stops. absurd (not_empty front file behind (sym (no_files_of s saves fresh c no_save no_watch) ∙ of));
        sink_before = sink_before;
        sink_after = now;
      }

  module _ (shelf : ShelfCall) (out : SinkCall) (y : Watching) (h : Stands shelf out y) where
    -- the publisher made the first calls
    leaves : (n : ℕ) → y ≡ after n → LeavesFront files shelf out its
    leaves n is =
        let made = is_later n in
        let gained : Gains out.before out.after (text n) = h.sink_after ∙ ap (λ (z : Watching). z.filed.written) is ∙ made.written ∙ ap (λ w. with_piece w (text n)) (sym h.sink_before) in
        record {
          front = front_of out.before out.after (text n) (flat_map piece (drop n (calls s))) its.out (out_is n) gained;
          saved = inl (has_saved n shelf out [] (gained ∙ ap (with_piece out.before) (sym (append-nil (text n)))) (h.held n (ap (λ (z : Watching). z.filed.held) is)));
        }

    -- the publisher made all calls
    all_made : y ≡ fold (after_call s) x (calls s) → y ≡ after (length (calls s))
    all_made is = is ∙ ap (fold (after_call s) x) (sym (take_all (length (calls s)) (calls s) (omega arith)))

    whole_text : y ≡ fold (after_call s) x (calls s) → Gains out.before out.after its.out
    whole_text is =
        let made = is_after s x (calls s) in
        h.sink_after ∙ ap (λ (z : Watching). z.filed.written) is ∙ made.written ∙ ap₂ with_piece (sym h.sink_before) (all_told s fresh lawful up)

    whole_files : y ≡ fold (after_call s) x (calls s) → shelf.held_after ≡ Some (with_saved files its.saved)
    whole_files is =
        h.held (length (calls s)) (ap (λ (z : Watching). z.filed.held) (all_made is))
        ∙ ap (λ cs. Some (with_saved files (saved_by s saves fresh [] cs))) (take_all (length (calls s)) (calls s) (omega arith))
        ∙ ap (λ (l : List Saving). Some (with_saved files l)) (calls_save s saves fresh lawful up)

    -- a front of the rows of the next call was written
    module _ (n : ℕ) (c : Call) (is_next : slice_get (calls s) n ≡ Some c) where
      abbrev rows : List ℕ
      rows = piece c

      -- all text up to the call, with its rows
      abbrev text_up : List ℕ
      text_up = text n ++ rows

      out_at : (rest : List Call) → drop n (calls s) ≡ c ∷ rest → its.out ≡ text n ++ (rows ++ flat_map piece rest)
      out_at rest is = out_is n ∙ ap (λ cs. text n ++ flat_map piece cs) is

      -- the rows that were written are a front of all, and the files before them are saved
      pub record HasWritten : Type 0 where
        pub front : GainsFront out.before out.after its.out
        pub saved : HasSaved files shelf out its

      wrote : WroteFront (after n).filed (shown_text s.job (after n).filed.fresh c.worlds) y.filed → HasWritten
      wrote w =
          let made = is_later n in
          let (rest, dropped) = item_at (calls s) n c is_next in
          let (k, (low, was)) = w.front in
          let more : List ℕ = flat_map piece rest in
          let gained : Gains out.before out.after (text n ++ take k rows) =
          h.sink_after ∙ was ∙ ap₂ (λ (l : Option (List ℕ)) (b : Bool). with_piece l (take k (shown_text s.job b c.worlds))) made.written made.fresh
          ∙ with_piece-twice x.filed.written (text n) (take k rows) ∙ ap (λ l. with_piece l (text n ++ take k rows)) (sym h.sink_before) in
          let is : its.out ≡ (text n ++ take k rows) ++ (drop k rows ++ more) =
          out_at rest dropped ∙ ap (λ l. text n ++ (l ++ more)) (sym (take-append-drop k rows)) ∙ ap (λ l. text n ++ l) (append_assoc (take k rows) (drop k rows) more)
          ∙ sym (append_assoc (text n) (take k rows) (drop k rows ++ more)) in
          record {
            front = front_of out.before out.after (text n ++ take k rows) (drop k rows ++ more) its.out is gained;
            saved = has_saved n shelf out (take k rows) gained (h.held n (ap (λ (z : Filed). z.held) w.rest));
          }

      -- a file of the next call was not saved
      pub record HasStopped (file : Option Named) : Type 0 where
        pub front : GainsFront out.before out.after its.out
        pub half : IsHalfSaved files shelf out its
        pub is_file : file ≡ Some half.saving.file

      stopped_at : (front : List Named) (file : Named) (behind : List Named) → files_of s saves fresh c ≡ front ++ file ∷ behind → Gains out.before out.after text_up
          → (before : Option Files) → (x.filed.held ≡ Some files → before ≡ Some (with_saved files (saved n ++ saving_in text_up front)))
          → StopsAt before y.filed.held y.filed.stage file → HasStopped (Some file)
      stopped_at front file behind of gained before told stops =
          let (rest, dropped) = item_at (calls s) n c is_next in
          let later : List Saving = saved_by s saves fresh text_up rest in
          let done : List Saving = saved n ++ saving_in text_up front in
          let saving : Saving = saving_of text_up file in
          let tail : List Saving = saving_in text_up behind ++ later in
          let is : its.saved ≡ done ++ saving ∷ tail =
          saved_is n ∙ ap (λ cs. saved n ++ saved_by s saves fresh (text n) cs) dropped ∙ ap (λ fs. saved n ++ (saving_in text_up fs ++ later)) of
          ∙ ap (λ (l : List Saving). saved n ++ (l ++ later)) (map-append (saving_of text_up) front (file ∷ behind))
          ∙ ap (λ (l : List Saving). saved n ++ l) (append_assoc (saving_in text_up front) (saving ∷ saving_in text_up behind) later)
          ∙ sym (append_assoc (saved n) (saving_in text_up front) (saving ∷ tail)) in
          let first : take (length done) its.saved ≡ done = ap (take (length done)) is ∙ take-append_seam done (saving ∷ tail) in
          record {
            front = front_of out.before out.after text_up (flat_map piece rest) its.out (out_at rest dropped ∙ sym (append_assoc (text n) rows (flat_map piece rest))) gained;
            half = record {
              count = length done;
              saving = saving;
              is_next = ap (λ (l : List Saving). slice_get l (length done)) is ∙ at_seam done saving tail;
              gained = gained;
              stops = subst (λ (l : List Saving). StopsAt (Some (with_saved files l)) shelf.held_after shelf.stage file) (sym first) (h.stops c front file behind of before done told stops);
            };
            is_file = refl;
          }

      -- the checkpoint and the figures of the next call
      abbrev checkpoint : Option Named
      checkpoint = saved_file saves.save s c.tick c.worlds

      abbrev figures : Option Named
      figures = watched_file saves.watch saves.watches fresh s c.tick c.worlds

      -- all rows of the next call were written
      rows_gained : y.filed.written ≡ with_piece (after n).filed.written (shown_text s.job (after n).filed.fresh c.worlds) → Gains out.before out.after text_up
      rows_gained is =
          let made = is_later n in
          h.sink_after ∙ is ∙ ap₂ (λ (l : Option (List ℕ)) (b : Bool). with_piece l (shown_text s.job b c.worlds)) made.written made.fresh
          ∙ with_piece-twice x.filed.written (text n) rows ∙ ap (λ l. with_piece l text_up) (sym h.sink_before)

      -- its checkpoint was not saved
      at_checkpoint : (file : Option Named) → checkpoint ≡ file → Gains out.before out.after text_up → StopsAtAny (after n).filed.held y.filed.held y.filed.stage file → HasStopped file
      at_checkpoint None of gained stops = absurd stops
      at_checkpoint (Some file) of gained stops =
          stopped_at [] file (listed figures) (ap (λ o. listed o ++ listed figures) of) gained (after n).filed.held
          (λ told. let made = is_later n in made.held [] files told ∙ ap (λ (l : List Saving). Some (with_saved files l)) (sym (append-nil (saved n)))) stops

      unsaved : StoppedSaving (with_rows (after n).filed (shown_text s.job (after n).filed.fresh c.worlds)) (saved_file (after n).filed.save s c.tick c.worlds) y.filed → HasStopped checkpoint
      unsaved w =
          let made = is_later n in
          at_checkpoint checkpoint refl (rows_gained (ap (λ (z : Filed). z.written) w.rest))
          (subst (λ (v : Saves). StopsAtAny (after n).filed.held y.filed.held y.filed.stage (saved_file v.save s c.tick c.worlds)) made.saves w.stops)

      -- its figures were not saved
      abbrev held_checkpoint : Option Files
      held_checkpoint = (after_epoch (after n).filed s c.tick c.worlds).held

      at_figures : (file : Option Named) → figures ≡ file → Gains out.before out.after text_up → StopsAtAny held_checkpoint y.filed.held y.filed.stage file → HasStopped file
      at_figures None of gained stops = absurd stops
      at_figures (Some file) of gained stops =
          let saved_here : List Saving = saving_in text_up (listed checkpoint) in
          stopped_at (listed checkpoint) file [] (ap (λ o. listed checkpoint ++ listed o) of) gained held_checkpoint
          (λ told.
          let made = is_later n in
          ap (λ (v : Saves). held_after (saved_file v.save s c.tick c.worlds) (after n).filed.held) made.saves
          ∙ held_listed text_up checkpoint (after n).filed.held (with_saved files (saved n)) (made.held [] files told)
          ∙ ap Some (sym (fold-append (λ (held : Files) (saving : Saving). with_file saving.file held) files (saved n) saved_here)))
          stops

      unwatched : StoppedSaving (after_epoch (after n).filed s c.tick c.worlds) (figures_file (after n) s c.tick c.worlds) y.filed → HasStopped figures
      unwatched w =
          let made = is_later n in
          at_figures figures refl (rows_gained (ap (λ (z : Filed). z.written) w.rest))
          (subst (λ (b : Bool). StopsAtAny held_checkpoint y.filed.held y.filed.stage (watched_file saves.watch saves.watches b s c.tick c.worlds)) made.fresh
          (subst (λ (v : Saves). StopsAtAny held_checkpoint y.filed.held y.filed.stage (watched_file v.watch v.watches (after n).filed.fresh s c.tick c.worlds)) made.saves w.stops))

-- ---- what a run came to

-- a publisher of rows, checkpoints and figures
abbrev pub watching : {P : Type 0} → (P → Watching) → (P → ℕ) → (P → ℕ) → (P → List ℕ) → (P → Program → Type 0) → publisher.Ghosts P
watching state writes saves loans fits =
    record { State = Watching; state = state; after = after_watched; cut = IsCut; writes = writes; saves = saves; loans = loans; fits = fits }

-- a publisher over a call: what it was and is, and the failures of its sink
pub record Publishes {P : Type 0} (of : publisher.Ghosts P) (out : SinkCall) (opening now : P) : Type 0 where
  pub writes_before : out.faults_before ≤ of.writes opening
  pub writes_after : out.faults_after ≡ of.writes now

-- the file that is saved was not, and the shelf stopped at it
halted_at : (before after : Option Files) (stage : Stage) (file : Option Named) → StopsAtAny before after stage file → (name : List ℕ) × StoppedAt after stage name
halted_at before after stage None stops = absurd stops
halted_at before after stage (Some file) stops = (file.0, stops.stops)

-- where a file was not saved the shelf stopped
halted_by : (x : PubFault) (k : ℕ) → tick_of x ≡ Some k → (w : Watching) (s : Setting) (c : Call) (v : Watching) → IsCut w s c.tick c.worlds x v → (name : List ℕ) × StoppedAt v.filed.held v.filed.stage name
halted_by (refusal.Save j) k at w s c v cut = halted_at w.filed.held v.filed.held v.filed.stage (saved_file w.filed.save s c.tick c.worlds) cut.leaves.stops
halted_by (refusal.Watch j) k at w s c v cut = halted_at (after_epoch w.filed s c.tick c.worlds).held v.filed.held v.filed.stage (figures_file w s c.tick c.worlds) cut.leaves.stops
halted_by _ k at w s c v cut = absurd (cc)

module _ {P : Type 0} (state : P → Watching) (writes saves : P → ℕ) (loans : P → List ℕ) (fits : P → Program → Type 0) (s : Setting) (stats : Bool) (shelf : ShelfCall) (out : SinkCall)
    (opening now : P) (counts : Publishes (watching state writes saves loans fits) out opening now) where
  abbrev of_it : publisher.Ghosts P
  of_it = watching state writes saves loans fits

  -- the shelf is the publisher's, with its failures
  pub record Keeps : Type 0 where
    pub saves_before : shelf.faults_before ≡ saves opening
    pub saves_after : shelf.faults_after ≡ saves now
    pub held_after : shelf.held_after ≡ (state now).filed.held
    pub stage_after : shelf.stage ≡ (state now).filed.stage

  writes_rose : Rose (writes opening) (writes now) → Rose out.faults_before out.faults_after
  writes_rose rose = rose_from out.faults_before (writes opening) out.faults_after counts.writes_before (subst (Rose (writes opening)) (sym counts.writes_after) rose)

  saves_rose : Keeps → Rose (saves opening) (saves now) → Rose shelf.faults_before shelf.faults_after
  saves_rose keeps rose = subst (λ n. Rose n shelf.faults_after) (sym keeps.saves_before) (subst (Rose (saves opening)) (sym keeps.saves_after) rose)

  saves_rise : Keeps → Rises of_it opening now → shelf.faults_before ≤ shelf.faults_after
  saves_rise keeps rises = subst (λ n. n ≤ shelf.faults_after) (sym keeps.saves_before) (subst (λ n. saves opening ≤ n) (sym keeps.saves_after) rises.saves_rise)

  module _ (named_by : Saves) (came : Result Counts CrewFault) (r : Result Answer Stopped) (h : CameBy of_it s opening now came) (settled : IsSettled stats named_by came r) where
    by_answer : (answer : Result Counts CrewFault) → came ≡ answer → CameBy of_it s opening now answer
    by_answer answer is = subst (CameBy of_it s opening now) is h

    -- the shelf's failures are counted as the answer says
    pub counted : Keeps → Rises of_it opening now → CountsShelf shelf (status_in r)
    counted keeps rises =
        settled_gives (λ m status. CountsShelf shelf status) stats named_by came r settled (λ c is. saves_rise keeps rises) (λ f is. saves_rise keeps rises) (λ is. saves_rise keeps rises)
        (λ x name k at named is. let cut = by_answer (Err (crew.Publish x)) is in saves_rose keeps (cut.saved k at)) tt

    -- the sink's failures are counted as the answer says
    pub write_counted : CountsWrites out (status_in r)
    write_counted =
        settled_gives (λ m status. CountsWrites out status) stats named_by came r settled (λ c is e. absurd (cc)) (λ f is e. absurd (cc))
        (λ is e. let cut = by_answer (Err (crew.Publish refusal.Write)) is in writes_rose (cut.written refl)) (λ x name k at named is e. absurd (cc)) (λ e. absurd (cc))

    -- a run that was carried out leaves its sink clean, where that was clean when it began
    pub cleaned : (state opening).filed.clean ≡ true → has_run (status_in r) ≡ true → (state now).filed.clean ≡ true
    cleaned clean =
        let made = is_after s (state opening) (calls s) in
        settled_gives (λ m status. has_run status ≡ true → (state now).filed.clean ≡ true) stats named_by came r settled
        (λ c is e. let run = by_answer (Ok c) is in ap (λ (z : Watching). z.filed.clean) run.is_behind ∙ made.clean clean)
        (λ f is e. let run = by_answer (Err (crew.Fault f)) is in ap (λ (z : Watching). z.filed.clean) run.is_behind ∙ made.clean clean)
        (λ is e. absurd (cc)) (λ x name k at named is e. absurd (cc)) (λ e. absurd (cc))

    -- the shelf stopped where a file was not saved
    pub halted : Keeps → status_in r ≡ SaveFault → IsHalted shelf
    halted keeps =
        settled_gives (λ m status. status ≡ SaveFault → IsHalted shelf) stats named_by came r settled (λ c is e. absurd (cc)) (λ f is e. absurd (cc)) (λ is e. absurd (cc))
        (λ x name k at named is e.
        let cut = by_answer (Err (crew.Publish x)) is in
        let (name, stopped) = halted_by x k at (behind of_it s opening (take cut.made (calls s))) s cut.call (state now) cut.is_cut in
        record {
          name = name;
          at_name =
              subst (λ (a : Option Files). StoppedAt a shelf.stage name) (sym keeps.held_after)
              (subst (λ (stage : Stage). StoppedAt (state now).filed.held stage name) (sym keeps.stage_after) stopped);
        })
        (λ e. absurd (cc))

  -- ---- it is carried out

  module _ (lawful : LawfulSetting s) (up : s.job.first ≤ s.job.last) (files : Files)
      (stands : Stands s lawful up stats (state opening) files shelf out (state now)) where
    abbrev of_run : Outcome
    of_run = ran stats (saves_by (state opening)) (state opening).filed.fresh s

    -- an answer is the run's
    abbrev Carries : List ℕ → Status → Type 0
    Carries message status = IsCarriedOut files (λ o. o ≡ of_run) shelf out message status

    given_up : LeavesFront files shelf out of_run → Carries no_memory_message NoMemory
    given_up front = record { leaves = inr (record { one = of_run; is = refl; holds = front }); says = refl }

    left_at : (n : ℕ) → state now ≡ fold (after_call s) (state opening) (take n (calls s)) → LeavesFront files shelf out of_run
    left_at n is = leaves s lawful up stats (state opening) files shelf out (state now) stands n is

    left_all : state now ≡ fold (after_call s) (state opening) (calls s) → LeavesFront files shelf out of_run
    left_all is = left_at (length (calls s)) (all_made s lawful up stats (state opening) files shelf out (state now) stands is)

    gained_all : state now ≡ fold (after_call s) (state opening) (calls s) → Gains out.before out.after of_run.out
    gained_all is = whole_text s lawful up stats (state opening) files shelf out (state now) stands is

    files_all : state now ≡ fold (after_call s) (state opening) (calls s) → shelf.held_after ≡ Some (with_saved files of_run.saved)
    files_all is = whole_files s lawful up stats (state opening) files shelf out (state now) stands is

    -- the call that was refused
    module _ (n : ℕ) (c : Call) (is_next : slice_get (calls s) n ≡ Some c) where
      half_given : (file : Option Named) → HasStopped s lawful up stats (state opening) files shelf out (state now) stands n c is_next file → LeavesFront files shelf out of_run
      half_given file h = record { front = h.front; saved = inr h.half }

      -- a file that was not saved, by whether its message could be made
      half_told : (name : Option (List ℕ)) (file : Option Named) (k : ℕ) (stop : Stopped) → k ≡ c.tick
          → ((given : List ℕ) (saved : Named) → name ≡ Some given → file ≡ Some saved → saved.0 ≡ file_name given c.tick)
          → ((given : List ℕ) → name ≡ Some given → Rose shelf.faults_before shelf.faults_after)
          → HasStopped s lawful up stats (state opening) files shelf out (state now) stands n c is_next file → IsUnsavedAs name k stop → Carries (stopped_message stop) (stopped_status stop)
      half_told name file k stop at named rose h settled =
          unsaved_gives Carries name k stop settled
          (λ given is. record {
            one = of_run;
            is = refl;
            holds = record {
              runs = runs (first_fault s.job);
              failed = rose given is;
              front = h.front;
              half = h.half;
              says = ap save_fault_message (ap (file_name given) at ∙ sym (named given h.half.saving.file is h.is_file));
            };
          })
          (given_up (half_given file h))

    -- a publisher that refused is answered so
    refused_so : ((x : PubFault) (name : List ℕ) → name_in (saves_by (state opening)) x ≡ Some name → Keeps) → (x : PubFault) (stop : Stopped) → crews.IsCut of_it s opening now (calls s) x
        → IsRefusedBy (saves_by (state opening)) x stop → Carries (stopped_message stop) (stopped_status stop)
    refused_so keeps refusal.Write stop h settled =
        let front = wrote s lawful up stats (state opening) files shelf out (state now) stands h.made h.call h.is_next h.is_cut.leaves in
        stop_gives Carries stopped.WriteFault stop settled
        (record {
          one = of_run;
          is = refl;
          holds = record {
            runs = runs (first_fault s.job);
            failed = writes_rose (h.written refl);
            front = front.front;
            saved = front.saved;
            says = refl;
          };
        })
    refused_so keeps (refusal.Save k) stop h settled =
        let x : Watching = state opening in
        half_told h.made h.call h.is_next (saves_by x).save (saved_file (saves_by x).save s h.call.tick h.call.worlds) k stop (h.is_named k refl)
        (λ given file is of. checkpoint_named s (saves_by x).save h.call given file is of) (λ given is. saves_rose (keeps (refusal.Save k) given is) (h.saved k refl))
        (unsaved s lawful up stats x files shelf out (state now) stands h.made h.call h.is_next h.is_cut.leaves) settled
    refused_so keeps (refusal.Watch k) stop h settled =
        let x : Watching = state opening in
        half_told h.made h.call h.is_next (saves_by x).watch (watched_file (saves_by x).watch (saves_by x).watches x.filed.fresh s h.call.tick h.call.worlds) k stop (h.is_named k refl)
        (λ given file is of. figures_named s (saves_by x) x.filed.fresh h.call given file is of) (λ given is. saves_rose (keeps (refusal.Watch k) given is) (h.saved k refl))
        (unwatched s lawful up stats x files shelf out (state now) stands h.made h.call h.is_next h.is_cut.leaves) settled
    refused_so keeps refusal.NoMemory stop h settled =
        let w : Watching = fold (after_call s) (state opening) (take h.made (calls s)) in
        stop_gives Carries stopped.NoMemory stop settled (given_up (left_at h.made (h.is_cut.rest ∙ ap (λ (f : Filed). record w { filed = f }) h.is_cut.leaves)))

    -- what a run came to is answered as its outcome's, where the shelf is the publisher's if it saves
    pub carried : ((x : PubFault) (name : List ℕ) → name_in (saves_by (state opening)) x ≡ Some name → Keeps) → (came : Result Counts CrewFault) (r : Result Answer Stopped)
        → CameBy of_it s opening now came → IsSettled stats (saves_by (state opening)) came r → Carries (message_in r) (status_in r)
    carried keeps (Ok c) r h settled =
        told_gives Carries Done (told_counts stats c) r settled
        (record {
          one = of_run;
          is = refl;
          holds = record {
            ends = ap end_status (sym h.no_fault);
            gained = gained_all h.is_behind;
            holds = files_all h.is_behind;
            says = counts_told stats s c h.border h.effects h.moved h.handed ∙ ap (end_message stats s) (sym h.no_fault);
          };
        })
        (given_up (left_all h.is_behind))
    carried keeps (Err (crew.Fault f)) r h settled =
        told_gives Carries Fault (fault_message f) r settled
        (record {
          one = of_run;
          is = refl;
          holds = record {
            ends = ap end_status (sym h.is_first);
            gained = gained_all h.is_behind;
            holds = files_all h.is_behind;
            says = ap (end_message stats s) (sym h.is_first);
          };
        })
        (given_up (left_all h.is_behind))
    carried keeps (Err (crew.Publish x)) (Ok a) h settled = absurd settled
    carried keeps (Err (crew.Publish x)) (Err stop) h settled = refused_so keeps x stop h settled
    carried keeps (Err crew.NoMemory) r h settled = stopped_gives Carries stopped.NoMemory r settled (given_up (left_at h.made h.is_behind))

-- ---- a task

module _ {K O : Type 0} (of_keeper : keeper_trait.Ghosts K) (of_sink : sink_trait.Ghosts O) where
  abbrev Watch_of : Type 0
  Watch_of = WatchPublisher K O

  -- what a publisher of rows, checkpoints and figures has made
  abbrev pub watch_state : Watch_of → Watching
  watch_state p = record {
    filed = record {
      written = of_sink.written p.files.out.now;
      clean = of_sink.clean p.files.out.now;
      held = of_keeper.held p.files.keeper.now;
      stage = of_keeper.stage p.files.keeper.now;
      save = option_map (λ name. name.now) p.files.save.now;
      fresh = p.files.fresh;
    };
    watches = p.watches.now;
    name = option_map (λ name. name.now) p.name.now;
  }

  abbrev write_faults : Watch_of → ℕ
  write_faults p = of_sink.faults p.files.out.now

  abbrev save_faults : Watch_of → ℕ
  save_faults p = of_keeper.faults p.files.keeper.now

  abbrev names : Watch_of → List ℕ
  names p = p.files.out.ghost_name ∷ p.files.keeper.ghost_name ∷ of_keeper.loans p.files.keeper.now

  abbrev its_programs : Watch_of → Program → Type 0
  its_programs p program = AreWatches program p.watches.now

  -- it as a publisher
  abbrev pub of_watching : publisher.Ghosts Watch_of
  of_watching = watching watch_state write_faults save_faults names its_programs

  -- the crew of a task came to its end, over this shelf and this sink, whose failures were counted before
  pub record HasCome (task : Task) (shelf shelf_after : K) (out out_after : O) (p q : Watch_of) (came : Result Counts CrewFault) (r : Result Answer Stopped) : Type 0 where
    pub settled : IsSettled task.stats (saves_in task) came r
    pub run : CameTo of_watching task.setting p q came
    pub save : p.files.save.now ≡ task.save
    pub watch : p.name.now ≡ task.watch
    pub watches : p.watches.now ≡ task.watches.items
    pub fresh : p.files.fresh ≡ task.fresh
    pub shelf_before : p.files.keeper.now ≡ shelf
    pub written_before : of_sink.written p.files.out.now ≡ of_sink.written out
    pub faults_before : of_sink.faults out ≤ of_sink.faults p.files.out.now
    pub shelf_left : q.files.keeper.now ≡ shelf_after
    pub out_left : q.files.out.now ≡ out_after

  -- its facts in turn
  pub has_come : {task : Task} {shelf shelf_after : K} {out out_after : O} {p q : Watch_of} {came : Result Counts CrewFault} {r : Result Answer Stopped}
      → IsSettled task.stats (saves_in task) came r → CameTo of_watching task.setting p q came
      → p.files.save.now ≡ task.save → p.name.now ≡ task.watch → p.watches.now ≡ task.watches.items → p.files.fresh ≡ task.fresh
      → p.files.keeper.now ≡ shelf → of_sink.written p.files.out.now ≡ of_sink.written out → of_sink.faults out ≤ of_sink.faults p.files.out.now
      → q.files.keeper.now ≡ shelf_after → q.files.out.now ≡ out_after → HasCome task shelf shelf_after out out_after p q came r
  has_come settled run save watch watches fresh shelf written faults shelf_left out_left = record {
    settled = settled;
    run = run;
    save = save;
    watch = watch;
    watches = watches;
    fresh = fresh;
    shelf_before = shelf;
    written_before = written;
    faults_before = faults;
    shelf_left = shelf_left;
    out_left = out_left;
  }

  module _ (task : Task) (shelf shelf_after : K) (out out_after : O) (p q : Watch_of) (came : Result Counts CrewFault) (r : Result Answer Stopped)
      (h : HasCome task shelf shelf_after out out_after p q came r) where
    abbrev on_shelf : ShelfCall
    on_shelf = keeper_call of_keeper shelf shelf_after

    abbrev on_sink : SinkCall
    on_sink = sink_call of_sink out out_after

    its_counts : Publishes of_watching on_sink p q
    its_counts = record { writes_before = h.faults_before; writes_after = ap of_sink.faults (sym h.out_left) }

    -- the shelf is its keeper's
    abbrev KeepsOn : ShelfCall → Type 0
    KeepsOn on = Keeps watch_state write_faults save_faults names its_programs task.setting task.stats on on_sink p q its_counts

    its_shelf : KeepsOn on_shelf
    its_shelf = record {
      saves_before = ap of_keeper.faults (sym h.shelf_before);
      saves_after = ap of_keeper.faults (sym h.shelf_left);
      held_after = ap of_keeper.held (sym h.shelf_left);
      stage_after = ap of_keeper.stage (sym h.shelf_left);
    }

    -- what is saved under borrowed names
    abbrev saves_named : Option (Bor (List ℕ)) → Option (Bor (List ℕ)) → List Watch → Saves
    saves_named save watch watches =
        record { save = option_map (λ name. name.now) save; watch = option_map (λ name. name.now) watch; watches = watches }

    its_saves : saves_by (watch_state p) ≡ saves_in task
    its_saves =
        ap (λ save. saves_named save p.name.now p.watches.now) h.save ∙ ap (λ watch. saves_named task.save watch p.watches.now) h.watch
        ∙ ap (saves_named task.save task.watch) h.watches

    -- it was carried out on a shelf that is its keeper's if it saves
    module _ (files : Files) (on : ShelfCall) (lawful : LawfulSetting task.setting) (up : task.setting.job.first ≤ task.setting.job.last)
        (stands : Stands task.setting lawful up task.stats (watch_state p) files on on_sink (watch_state q)) where
      task_carried : ((x : PubFault) (name : List ℕ) → name_in (saves_by (watch_state p)) x ≡ Some name → KeepsOn on)
          → task.trial ≡ None → IsCarriedOut files (λ o. o ≡ outcome_of task) on on_sink (message_in r) (status_in r)
      task_carried keeps is_run =
          subst (λ (trial : Option CodeTrial). IsCarriedOut files (λ o. o ≡ outcome_by trial task) on on_sink (message_in r) (status_in r)) (sym is_run)
          (subst (λ (b : Bool). IsCarriedOut files (λ o. o ≡ ran task.stats (saves_in task) b task.setting) on on_sink (message_in r) (status_in r)) h.fresh
          (subst (λ (v : Saves). IsCarriedOut files (λ o. o ≡ ran task.stats v p.files.fresh task.setting) on on_sink (message_in r) (status_in r)) its_saves
          (carried watch_state write_faults save_faults names its_programs task.setting task.stats on on_sink p q its_counts lawful up files stands keeps came r h.run.came
          (subst (λ (v : Saves). IsSettled task.stats v came r) (sym its_saves) h.settled))))

    -- so it was carried out for its outcome
    pub task_run : LawfulSetting task.setting → task.setting.job.first ≤ task.setting.job.last → task.trial ≡ None → of_sink.clean p.files.out.now ≡ true
        → IsRunOf of_sink task on_shelf out out_after r
    task_run lawful up is_run clean = record {
      carried_out = λ files told.
          task_carried files on_shelf lawful up
          (kept_stands task.setting lawful up task.stats (watch_state p) files on_shelf on_sink (watch_state q) (ap of_keeper.held h.shelf_before ∙ told)
          its_shelf.held_after its_shelf.stage_after (sym h.written_before) (ap of_sink.written (sym h.out_left)))
          (λ x name named. its_shelf) is_run;
      written = λ bare files on told same.
          let none : saves_files (saves_by (watch_state p)) ≡ false = ap saves_files its_saves ∙ bare in
          task_carried files on lawful up
          (bare_stands task.setting lawful up task.stats (watch_state p) files on on_sink (watch_state q) none (same ∙ told) (sym h.written_before) (ap of_sink.written (sym h.out_left)))
          (λ x name named. absurd (no_name (saves_by (watch_state p)) x name none named)) is_run;
      plain = λ bare. settled_plain task.stats (saves_in task) came r bare h.settled;
      work = settled_work task.stats (saves_in task) came r h.settled;
      counts = counted watch_state write_faults save_faults names its_programs task.setting task.stats on_shelf on_sink p q its_counts (saves_in task) came r h.run.came h.settled its_shelf h.run.rises;
      stops = record {
        read = λ e. absurd (work_reads _ (settled_work task.stats (saves_in task) came r h.settled) e);
        saved = halted watch_state write_faults save_faults names its_programs task.setting task.stats on_shelf on_sink p q its_counts (saves_in task) came r h.run.came h.settled its_shelf;
      };
      writes = write_counted watch_state write_faults save_faults names its_programs task.setting task.stats on_shelf on_sink p q its_counts (saves_in task) came r h.run.came h.settled;
      clean = λ ran.
          sym (ap of_sink.clean h.out_left)
          ∙ cleaned watch_state write_faults save_faults names its_programs task.setting task.stats on_shelf on_sink p q its_counts (saves_in task) came r h.run.came h.settled clean ran;
    }
