-- What the program answers.
use Rattle.std.proofs.Common.{◌≡◌, ◌≢◌, ◌⊎◌, inl, inr, ℕ, ◌+◌, ◌≤◌, List, [], ◌++◌, length, Option, Some, None, refl, sym, ◌∙◌, ap, subst, arith, append-nil, length-append}
use Rattle.std.specs.Prelude.{unwrap_or, IfSome}
use Rattle.ws_outside.specs.declared.contents.Contents.{Contents}
use Rattle.ws_outside.specs.Faults.{Rose}
use Rattle.ws_outside.specs.Streams.{Takes, IsAtEnd, GainsFront}
use Rattle.disk_area.specs.declared.damage.Damage.{Damage}
use Rattle.ws_durable.specs.declared.durable.Durable.{Durable}
use Rattle.save_store.specs.Damages.{IsDamaged}
use Rattle.script_lang.specs.declared.script.Script.{Script}
use Rattle.load_text.specs.Summaries.{summary_from}
use Rattle.script_gen.specs.Generated.{generated}
use Rattle.script_lang.specs.Scripts.{IsScript}
use Rattle.core_event.specs.declared.entry.Entry.{Entry}
use Rattle.builder_api.specs.Meanings.{Meanings}
use Rattle.builder_api.specs.Told.{Told}
use Rattle.save_round.specs.Told.{Told as PartTold}
use Rattle.ws_core.specs.States.{Moment}
use Rattle.ws_top.specs.declared.reading.Unread.{Unread}
use Rattle.ws_top.specs.declared.reading.Unread.TheVariants.{Fault, TooLong, Memory}
use Rattle.run_words.specs.declared.words.Form.{Form}
use Rattle.run_words.specs.declared.words.Form.TheVariants.{Run, Check, Generate, Load, Help, Version}
use Rattle.ws_top.specs.declared.report.Telling.TheVariants.{All, Summary}
use Rattle.ws_opening.specs.Opened.{opened_state}
use Rattle.ws_top.specs.Areas.{IsDamage, AreUndamaged, FindsDamage, TellsDiskFault}
use Rattle.run_words.specs.Forms.{Works, Touches, help_text, version_text}
use Rattle.ws_top.specs.Inside.Parts.{unread_status, IsUnreadCause, IsUnreadLength, IsRefused, IsUnopenedFor, Performs, Responds, EndsRun, EndsLoad}
use Rattle.ws_top.specs.Limits.{longest, Reads, ReadsAll, ReadsShort}
use Rattle.ws_top.specs.Outcomes.{IsStatus, WasRead, WasRun, WasIdle, WasUnopened, TellsWriteFault, TellsState, TellsUnopened, Shuffle, CutShuffle, StoppedShuffle, Spelled, Ran, WasStopped, WasStoppedAs, Writes, ReadsNoMore, ReadsNothing, RunsScript, LoadsScript, Tells, TellsOrWants, TellsScript, TellsFound, Checks, EndsProgram}
use Rattle.ws_top.specs.Texts.{report_of, status_line, cut_text, check_text, generated_text}
use Rattle.ws_top.proofs.Fronts.{front_of_writes}
use Rattle.ws_top.proofs.Opened.{disk_calm, unopened_never, told_status, said_status, said_unopened}
use Rattle.ws_top.proofs.Performed.{right_of, thread_none, calm_none, performs_for}
use Rattle.ws_top.proofs.Statuses.{apart, not_2, not_3, not_6, not_9, not_unread, not_idle, not_loaded, is_loaded, loaded_of, is_performed, was_run, well_of, not_refused, refused_unread, refused_idle, refused_0, refused_4, refused_5, refused_run, refused_8, is_refused, some_not_none, unrun, told_other, is_told, said_other, is_said}
use Rattle.ws_top.proofs.Taken.{takes_none}

-- what was taken to the end is all that there was
pub all_taken : (old new : Option (List ℕ)) (taken bytes : List ℕ) → Takes old taken new → IsAtEnd new → old ≡ Some bytes → taken ≡ bytes
all_taken old None taken bytes t n e = let no : None ≡ Some bytes = sym t ∙ e in cc
all_taken old (Some rest) taken bytes t n e =
    sym (append-nil taken) ∙ ap (λ xs. taken ++ xs) (sym n) ∙ ap (λ (o : Option (List ℕ)). unwrap_or o []) (sym t ∙ e)

-- no more can be taken than there is
taken_within : (old new : Option (List ℕ)) (taken bytes : List ℕ) → Takes old taken new → old ≡ Some bytes → length taken ≤ length bytes
taken_within old None taken bytes t e = let no : None ≡ Some bytes = sym t ∙ e in cc
taken_within old (Some rest) taken bytes t e =
    omega (arith, length-append taken rest, ap (λ (o : Option (List ℕ)). length (unwrap_or o [])) (sym t ∙ e))

pub short_of : (l m : Option (List ℕ)) (bytes : List ℕ) → ReadsAll l m bytes → ReadsShort l m
short_of l m bytes r = (bytes, r.short, r.taken)

ran_of : (Made : Script → List Entry → Type 0) (l m : Option (List ℕ)) (bytes : List ℕ) (h : List Entry) → ReadsAll l m bytes → Spelled Made bytes h → Ran Made l m h
ran_of Made l m bytes h r s = record { bytes = bytes; script = s.script; read = r; spelled = s.spelled; made = s.made }

-- damage that was told is damage of the areas
told_damaged : (seen : Option Contents) (both : Contents) (damage : Damage) → seen ≡ Some both → IsDamage seen damage → IsDamaged both damage
told_damaged seen both damage is has = subst (λ o. IsDamage o damage) is has

-- a status at which no state was opened, of areas without damage
refused_complete : (kept : Option Durable) (seen : Option Contents) (p q : ℕ) (a b : Option (List ℕ)) (f g n : ℕ) (h : List Entry) → TellsDiskFault p q n → TellsUnopened kept seen a b f g n h
    → (Rose p q → ⊥) → (both : Contents) → seen ≡ Some both → AreUndamaged both → WasUnopened kept n → (n ≡ 0) ⊎ (n ≡ 8)
refused_complete kept seen p q a b f g n h fault unopened sound both is whole (inl (five, _)) = absurd (sound (fault.rose_at_5 five))
refused_complete kept seen p q a b f g n h fault unopened sound both is whole (inr seven) = let d = unopened.damage_at_7 seven in absurd (whole d.damage (told_damaged seen both d.damage is d.is))

-- the bytes spell a script, for which no state was opened
refused_responded : (ms : Meanings) (kept : Option Durable) (parts : List PartTold) (told : List Told) (l m : Option (List ℕ)) (x y : Option ℕ) (i j : ℕ) (seen : Option Contents) (p q : ℕ) (a b : Option (List ℕ)) (f g n : ℕ) (h : List Entry) (bytes : List ℕ)
    → ReadsAll l m bytes → j ≡ i → (xs : List ℕ) × Reads l m x y xs → TellsDiskFault p q n → TellsUnopened kept seen a b f g n h → IsUnopenedFor kept bytes n h → EndsRun ms kept parts (opened_state kept told) l m x y i j seen p q a b f g n h
refused_responded ms kept parts told l m x y i j seen p q a b f g n h bytes r calm few fault unopened t = record {
  ends = is_refused kept n t.refused.ends;
  usage = not_refused kept n 2 t.refused.ends (λ k. omega (arith, k)) (λ k. omega (arith, k));
  read_fault = record { rose_at_3 = λ e. absurd (not_refused kept n 3 t.refused.ends (λ k. omega (arith, k)) (λ k. omega (arith, k)) e); calm_else = λ _. calm };
  write_fault = record {
    rose_at_4 = λ e. refused_4 kept n t.refused.ends e;
    calm_at_0 = λ e. refused_0 kept n t.refused.ends e;
    calm_at_5 = λ e some. refused_5 kept n t.refused.ends e some;
    calm_or_later_at_8 = λ e. refused_8 kept n t.refused.ends e;
  };
  complete = λ _ _ sound given script both left short spelled is whole. refused_complete kept seen p q a b f g n h fault unopened sound both is whole t.refused.ends;
  reads = record { few = few; one_too_many_at_9 = λ e. absurd (not_refused kept n 9 t.refused.ends (λ k. omega (arith, k)) (λ k. omega (arith, k)) e); short_else = λ _. short_of l m bytes r };
  thread = thread_none kept told h t.refused.nothing;
  runs = record {
    to_its_end = λ _. r.ended;
    judged = λ _. (bytes, r, (λ e. absurd (not_refused kept n 6 t.refused.ends (λ k. omega (arith, k)) (λ k. omega (arith, k)) e), λ none. absurd (none t.script t.spelled)));
    nothing_if_idle = λ w. refused_idle kept n t.refused.ends w;
    done = record { all_if_run = λ w. refused_run kept n t.refused.ends w; some_at_8 = λ e. refused_8 kept n t.refused.ends e };
    text = record {
      all_at_0 = λ e. refused_0 kept n t.refused.ends e;
      all_at_5 = λ e some. refused_5 kept n t.refused.ends e some;
      front_at_4 = λ e. refused_4 kept n t.refused.ends e;
      front_at_8 = λ e. refused_8 kept n t.refused.ends e;
    };
    bad_line_at_6 = λ e. absurd (not_refused kept n 6 t.refused.ends (λ k. omega (arith, k)) (λ k. omega (arith, k)) e);
  };
  calm = λ _. calm_none h t.refused.nothing;
  line = λ w. refused_unread kept n t.refused.ends w;
}

-- what the bytes of the source ask for was done
pub ends_responded : (ms : Meanings) (kept : Option Durable) (parts : List PartTold) (told : List Told) (l m : Option (List ℕ)) (x y : Option ℕ) (i j : ℕ) (seen : Option Contents) (p q : ℕ) (a b : Option (List ℕ)) (f g n : ℕ) (h : List Entry) (bytes : List ℕ)
    → ReadsAll l m bytes → j ≡ i → (xs : List ℕ) × Reads l m x y xs → TellsDiskFault p q n → TellsUnopened kept seen a b f g n h → Responds ms kept parts (opened_state kept told) bytes a b f g n h → EndsRun ms kept parts (opened_state kept told) l m x y i j seen p q a b f g n h
ends_responded ms kept parts told l m x y i j seen p q a b f g n h bytes r calm few fault unopened (inl o) = record {
  ends = is_performed kept n o.ends;
  usage = not_2 kept n o.ends;
  read_fault = record { rose_at_3 = λ e. absurd (not_3 kept n o.ends e); calm_else = λ _. calm };
  write_fault = record {
    rose_at_4 = o.fault.rose_at_4;
    calm_at_0 = o.fault.calm_at_0;
    calm_at_5 = o.fault.calm_at_5;
    calm_or_later_at_8 = λ e. right_of (right_of (ran_of (StoppedShuffle ms (opened_state kept told)) l m bytes h r)) (o.fault.calm_or_later_at_8 e);
  };
  complete = λ _ good sound given script both left short spelled is whole. well_of kept n o.ends (λ four. good (o.fault.rose_at_4 four)) (λ five. sound (fault.rose_at_5 five));
  reads = record { few = few; one_too_many_at_9 = λ e. absurd (not_9 kept n o.ends e); short_else = λ _. short_of l m bytes r };
  thread = o.thread;
  runs = record {
    to_its_end = λ _. r.ended;
    judged = λ w. (
      bytes,
      r,
      (
        λ six. absurd (not_6 kept n o.ends six),
        λ none. let s = o.done.all_if_run (was_run kept n o.ends w.memory) in absurd (none s.script s.spelled),
      ),
    );
    nothing_if_idle = λ w. not_idle kept n o.ends w;
    done = record {
      all_if_run = λ w. ran_of (Shuffle ms (opened_state kept told)) l m bytes h r (o.done.all_if_run w);
      some_at_8 = λ e. right_of (ran_of (CutShuffle ms (opened_state kept told)) l m bytes h r) (o.done.some_at_8 e);
    };
    text = o.text;
    bad_line_at_6 = λ e. absurd (not_6 kept n o.ends e);
  };
  calm = o.calm;
  line = λ w. not_unread n (not_2 kept n o.ends) (not_3 kept n o.ends) (not_9 kept n o.ends) w;
}
ends_responded ms kept parts told l m x y i j seen p q a b f g n h bytes r calm few fault unopened (inr (inl t)) = record {
  ends = inr (inr (inr (inr (inl t.ends))));
  usage = λ e. apart n 6 2 t.ends e (λ k. omega (arith, k));
  read_fault = record { rose_at_3 = λ e. apart n 6 3 t.ends e (λ k. omega (arith, k)); calm_else = λ _. calm };
  write_fault = record {
    rose_at_4 = λ e. apart n 6 4 t.ends e (λ k. omega (arith, k));
    calm_at_0 = λ e. apart n 6 0 t.ends e (λ k. omega (arith, k));
    calm_at_5 = λ e some. apart n 6 5 t.ends e (λ k. omega (arith, k));
    calm_or_later_at_8 = λ e. apart n 6 8 t.ends e (λ k. omega (arith, k));
  };
  complete = λ _ _ _ given script both left short spelled is whole. absurd (t.none script (subst (λ (xs : List ℕ). IsScript xs script) (sym (all_taken l m bytes given r.taken r.ended left)) spelled));
  reads = record { few = few; one_too_many_at_9 = λ e. apart n 6 9 t.ends e (λ k. omega (arith, k)); short_else = λ _. short_of l m bytes r };
  thread = thread_none kept told h t.nothing;
  runs = record {
    to_its_end = λ _. r.ended;
    judged = λ _. (bytes, r, (λ _. t.none, λ _. t.ends));
    nothing_if_idle = λ _. t.nothing;
    done = record { all_if_run = λ w. unrun kept n 6 t.ends (λ k. omega (arith, k)) (λ k. omega (arith, k)) (λ k. omega (arith, k)) w; some_at_8 = λ e. apart n 6 8 t.ends e (λ k. omega (arith, k)) };
    text = record {
      all_at_0 = λ e. apart n 6 0 t.ends e (λ k. omega (arith, k));
      all_at_5 = λ e some. apart n 6 5 t.ends e (λ k. omega (arith, k));
      front_at_4 = λ e. apart n 6 4 t.ends e (λ k. omega (arith, k));
      front_at_8 = λ e. apart n 6 8 t.ends e (λ k. omega (arith, k));
    };
    bad_line_at_6 = λ _. (_, record { bytes = bytes; line = t.line; read = r; none = t.none; place = t.place; line_is = refl }, t.written);
  };
  calm = λ _. calm_none h t.nothing;
  line = λ w. not_unread n (λ e. apart n 6 2 t.ends e (λ k. omega (arith, k))) (λ e. apart n 6 3 t.ends e (λ k. omega (arith, k))) (λ e. apart n 6 9 t.ends e (λ k. omega (arith, k))) w;
}
ends_responded ms kept parts told l m x y i j seen p q a b f g n h bytes r calm few fault unopened (inr (inr t)) = refused_responded ms kept parts told l m x y i j seen p q a b f g n h bytes r calm few fault unopened t

-- the script was not run: a status of its own is told
runs_nothing : (ms : Meanings) (kept : Option Durable) (parts : List PartTold) (opened : Moment) (l m a b : Option (List ℕ)) (f g n s : ℕ) (h : List Entry) → n ≡ s → h ≡ [] → (WasRead s → ⊥) → (s ≡ 0 → ⊥) → (s ≡ 4 → ⊥) → (s ≡ 5 → ⊥) → (s ≡ 6 → ⊥) → (s ≡ 8 → GainsFront a (cut_text kept (report_of All parts) opened h) b)
    → RunsScript ms kept parts opened l m a b f g n h
runs_nothing ms kept parts opened l m a b f g n s h e z u d0 d4 d5 d6 w = record {
  to_its_end = λ k. absurd (u (subst WasRead e k));
  judged = λ k. absurd (u (subst WasRead e k));
  nothing_if_idle = λ _. z;
  done = record { all_if_run = λ k. unrun kept n s e d0 d4 d5 k; some_at_8 = λ _. inl z };
  text = record {
    all_at_0 = λ k. apart n s 0 e k d0;
    all_at_5 = λ k some. apart n s 5 e k d5;
    front_at_4 = λ k. apart n s 4 e k d4;
    front_at_8 = λ k. w (sym e ∙ k);
  };
  bad_line_at_6 = λ k. apart n s 6 e k d6;
}

-- the source was not read to its end
pub ends_unread : (ms : Meanings) (kept : Option Durable) (parts : List PartTold) (told : List Told) (why : Unread) (l m : Option (List ℕ)) (x y : Option ℕ) (i j : ℕ) (seen : Option Contents) (p q : ℕ) (a b : Option (List ℕ)) (f g n : ℕ) (h : List Entry)
    → IsUnreadCause why i j → IsUnreadLength why l m → (xs : List ℕ) × Reads l m x y xs → n ≡ unread_status why → h ≡ [] → kept ≡ None → Writes a b f g (status_line (unread_status why))
    → EndsRun ms kept parts (opened_state kept told) l m x y i j seen p q a b f g n h
ends_unread ms kept parts told Fault l m x y i j seen p q a b f g n h cause much few e z none w = record {
  ends = inr (inr (inl e));
  usage = λ k. apart n 3 2 e k (λ k. omega (arith, k));
  read_fault = record { rose_at_3 = λ _. cause; calm_else = λ k. absurd (k e) };
  write_fault = record {
    rose_at_4 = λ k. apart n 3 4 e k (λ k. omega (arith, k));
    calm_at_0 = λ k. apart n 3 0 e k (λ k. omega (arith, k));
    calm_at_5 = λ k some. apart n 3 5 e k (λ k. omega (arith, k));
    calm_or_later_at_8 = λ _. inr (inl z);
  };
  complete = λ good _ _ given script both left short spelled is whole. absurd (good cause);
  reads = record { few = few; one_too_many_at_9 = λ k. apart n 3 9 e k (λ k. omega (arith, k)); short_else = λ _. much };
  thread = thread_none kept told h z;
  runs = runs_nothing ms kept parts (opened_state kept told) l m a b f g n 3 h e z (λ k. k.fault refl) (λ k. omega (arith, k)) (λ k. omega (arith, k)) (λ k. omega (arith, k)) (λ k. omega (arith, k)) (λ k. absurd (three_not_8 k));
  calm = λ _. calm_none h z;
  line = λ _. subst (λ (k : ℕ). Writes a b f g (status_line k)) (sym e) w;
}
  where
    three_not_8 : ◌≡◌ {A = ℕ} 3 8 → ⊥
    three_not_8 k = omega (arith, k)
ends_unread ms kept parts told TooLong l m x y i j seen p q a b f g n h cause much few e z none w = record {
  ends = inr (inr (inr (inr (inr (inr (inl e))))));
  usage = λ k. apart n 9 2 e k (λ k. omega (arith, k));
  read_fault = record { rose_at_3 = λ k. apart n 9 3 e k (λ k. omega (arith, k)); calm_else = λ _. cause };
  write_fault = record {
    rose_at_4 = λ k. apart n 9 4 e k (λ k. omega (arith, k));
    calm_at_0 = λ k. apart n 9 0 e k (λ k. omega (arith, k));
    calm_at_5 = λ k some. apart n 9 5 e k (λ k. omega (arith, k));
    calm_or_later_at_8 = λ _. inr (inl z);
  };
  complete = λ _ _ _ given script both left short spelled is whole. absurd (too_much given left short);
  reads = record { few = few; one_too_many_at_9 = λ _. much; short_else = λ k. absurd (k e) };
  thread = thread_none kept told h z;
  runs = runs_nothing ms kept parts (opened_state kept told) l m a b f g n 9 h e z (λ k. k.too_long refl) (λ k. omega (arith, k)) (λ k. omega (arith, k)) (λ k. omega (arith, k)) (λ k. omega (arith, k)) (λ k. absurd (nine_not_8 k));
  calm = λ _. calm_none h z;
  line = λ _. subst (λ (k : ℕ). Writes a b f g (status_line k)) (sym e) w;
}
  where
    nine_not_8 : ◌≡◌ {A = ℕ} 9 8 → ⊥
    nine_not_8 k = omega (arith, k)

    too_much : (given : List ℕ) → l ≡ Some given → length given ≤ longest → ⊥
    too_much given left short = omega (arith, short, much.1, taken_within l m much.0 given much.2 left)
ends_unread ms kept parts told Memory l m x y i j seen p q a b f g n h cause much few e z none w = record {
  ends = inr (inr (inr (inr (inr (inl e)))));
  usage = λ k. apart n 8 2 e k (λ k. omega (arith, k));
  read_fault = record { rose_at_3 = λ k. apart n 8 3 e k (λ k. omega (arith, k)); calm_else = λ _. cause };
  write_fault = record {
    rose_at_4 = λ k. apart n 8 4 e k (λ k. omega (arith, k));
    calm_at_0 = λ k. apart n 8 0 e k (λ k. omega (arith, k));
    calm_at_5 = λ k some. apart n 8 5 e k (λ k. omega (arith, k));
    calm_or_later_at_8 = λ _. inr (inl z);
  };
  complete = λ _ _ _ given script both left short spelled is whole. inr e;
  reads = record { few = few; one_too_many_at_9 = λ k. apart n 8 9 e k (λ k. omega (arith, k)); short_else = λ _. much };
  thread = thread_none kept told h z;
  runs = runs_nothing ms kept parts (opened_state kept told) l m a b f g n 8 h e z (λ k. k.memory refl) (λ k. omega (arith, k)) (λ k. omega (arith, k)) (λ k. omega (arith, k)) (λ k. omega (arith, k))
      (λ _. subst (λ k. GainsFront a (cut_text k (report_of All parts) (opened_state kept told) h) b) (sym none) (front_of_writes a b f g (status_line 8) w));
  calm = λ _. calm_none h z;
  line = λ _. subst (λ (k : ℕ). Writes a b f g (status_line k)) (sym e) w;
}

-- ---- forms of words

not_none : {A : Type 0} (form : Option Form) (x : Form) → form ≡ Some x → form ≡ None → A
not_none form x e k = let no : Some x ≡ None = sym e ∙ k in cc

two_forms : {A : Type 0} (form : Option Form) (x y : Form) → form ≡ Some x → form ≡ Some y → (x ≡ y → ⊥) → A
two_forms form x y e k d = absurd (d (ap (λ (o : Option Form). unwrap_or o x) (sym e ∙ k)))

run_not_check : Run ≡ Check → ⊥
run_not_check e = let no : Run ≡ Check = e in cc

run_not_help : Run ≡ Help → ⊥
run_not_help e = let no : Run ≡ Help = e in cc

run_not_version : Run ≡ Version → ⊥
run_not_version e = let no : Run ≡ Version = e in cc

run_not_generate : (number : ℕ) → Run ≡ Generate number → ⊥
run_not_generate number e = let no : Run ≡ Generate number = e in cc

check_not_generate : (number : ℕ) → Check ≡ Generate number → ⊥
check_not_generate number e = let no : Check ≡ Generate number = e in cc

help_not_generate : (number : ℕ) → Help ≡ Generate number → ⊥
help_not_generate number e = let no : Help ≡ Generate number = e in cc

version_not_generate : (number : ℕ) → Version ≡ Generate number → ⊥
version_not_generate number e = let no : Version ≡ Generate number = e in cc

run_not_load : (number : ℕ) → Run ≡ Load number → ⊥
run_not_load number e = let no : Run ≡ Load number = e in cc

check_not_load : (number : ℕ) → Check ≡ Load number → ⊥
check_not_load number e = let no : Check ≡ Load number = e in cc

generate_not_load : (m n : ℕ) → Generate m ≡ Load n → ⊥
generate_not_load m n e = let no : Generate m ≡ Load n = e in cc

load_not_check : (number : ℕ) → Load number ≡ Check → ⊥
load_not_check number e = let no : Load number ≡ Check = e in cc

load_not_generate : (n m : ℕ) → Load n ≡ Generate m → ⊥
load_not_generate n m e = let no : Load n ≡ Generate m = e in cc

load_not_help : (number : ℕ) → Load number ≡ Help → ⊥
load_not_help number e = let no : Load number ≡ Help = e in cc

load_not_version : (number : ℕ) → Load number ≡ Version → ⊥
load_not_version number e = let no : Load number ≡ Version = e in cc

check_not_help : Check ≡ Help → ⊥
check_not_help e = let no : Check ≡ Help = e in cc

check_not_version : Check ≡ Version → ⊥
check_not_version e = let no : Check ≡ Version = e in cc

help_not_version : Help ≡ Version → ⊥
help_not_version e = let no : Help ≡ Version = e in cc

-- words give one number
one_number : (form : Option Form) (m n : ℕ) → form ≡ Some (Generate m) → form ≡ Some (Generate n) → m ≡ n
one_number form m n e k = let same : Some (Generate m) ≡ Some (Generate n) = sym e ∙ k in cc

one_load : (form : Option Form) (m n : ℕ) → form ≡ Some (Load m) → form ≡ Some (Load n) → m ≡ n
one_load form m n e k = let same : Some (Load m) ≡ Some (Load n) = sym e ∙ k in cc

-- words of another form don't ask for a script to be run
no_work : {A : Type 0} (form : Option Form) (kind : Form) → form ≡ Some kind → (Run ≡ kind → ⊥) → ((number : ℕ) → Load number ≡ kind → ⊥) → Works form → A
no_work form kind e run load (inl k) = two_forms form Run kind k e run
no_work form kind e run load (inr (number, k)) = two_forms form (Load number) kind k e (load number)

none_works : {A : Type 0} (form : Option Form) → form ≡ None → Works form → A
none_works form e (inl k) = not_none form Run k e
none_works form e (inr (number, k)) = not_none form (Load number) k e

-- words that ask for a text alone don't touch the areas
no_touch : {A : Type 0} (form : Option Form) (kind : Form) → form ≡ Some kind → (Run ≡ kind → ⊥) → ((number : ℕ) → Load number ≡ kind → ⊥) → (Check ≡ kind → ⊥) → Touches form → A
no_touch form kind e run load check (inl w) = no_work form kind e run load w
no_touch form kind e run load check (inr k) = two_forms form Check kind k e check

none_touches : {A : Type 0} (form : Option Form) → form ≡ None → Touches form → A
none_touches form e (inl w) = none_works form e w
none_touches form e (inr k) = not_none form Check k e

-- what the words ask touches the areas, or the status says that it didn't come to that
pub touched_idle : {D : Type 0} {x y : D} (form : Option Form) (n : ℕ) → Touches form → (WasIdle n → x ≡ y) → (Touches form → ⊥) ⊎ WasIdle n → x ≡ y
touched_idle form n touches idle (inl untouched) = absurd (untouched touches)
touched_idle form n touches idle (inr w) = idle w

-- ---- where memory wanted

-- that it did is said in other words
fault_as : (kept : Option Durable) (f g n : ℕ) (W V : Type 0) → (W → V) → TellsWriteFault kept f g n W → TellsWriteFault kept f g n V
fault_as kept f g n W V m t = record { rose_at_4 = t.rose_at_4; calm_at_0 = t.calm_at_0; calm_at_5 = t.calm_at_5; calm_or_later_at_8 = λ e. right_of m (t.calm_or_later_at_8 e) }

stopped_run : (form : Option Form) (ms : Meanings) (opened : Moment) (l m : Option (List ℕ)) (h : List Entry) → form ≡ Some Run → WasStopped ms opened l m h → WasStoppedAs form ms opened l m h
stopped_run form ms opened l m h is (inl z) = inl z
stopped_run form ms opened l m h is (inr r) = inr (inl (is, r))

stopped_load : (form : Option Form) (number : ℕ) (ms : Meanings) (opened : Moment) (l m : Option (List ℕ)) (h : List Entry) → form ≡ Some (Load number) → (h ≡ []) ⊎ StoppedShuffle ms opened (generated number) h → WasStoppedAs form ms opened l m h
stopped_load form number ms opened l m h is (inl z) = inl z
stopped_load form number ms opened l m h is (inr s) = inr (inr (number, is, s))

-- ---- what words of each form are answered

-- the words ask for a run
pub program_run : (ms : Meanings) (kept : Option Durable) (told : List Told) (parts : List PartTold) (form : Option Form) (l m : Option (List ℕ)) (x y : Option ℕ) (i j : ℕ) (seen : Option Contents) (p q : ℕ) (a b : Option (List ℕ)) (f g n : ℕ) (h : List Entry)
    → form ≡ Some Run → EndsRun ms kept parts (opened_state kept told) l m x y i j seen p q a b f g n h → TellsDiskFault p q n → TellsUnopened kept seen a b f g n h → IfSome seen (λ both. FindsDamage both n) → TellsState kept seen n h
    → EndsProgram ms kept told parts form l m x y i j seen p q a b f g n h
program_run ms kept told parts form l m x y i j seen p q a b f g n h is r fault unopened damaged state = record {
  ends = r.ends;
  usage = (λ e. absurd (r.usage e), λ k. not_none form Run is k);
  read_fault = r.read_fault;
  disk_fault = fault;
  write_fault = fault_as kept f g n (WasStopped ms (opened_state kept told) l m h) (WasStoppedAs form ms (opened_state kept told) l m h) (stopped_run form ms (opened_state kept told) l m h is) r.write_fault;
  damaged = λ _. damaged;
  complete = λ _. r.complete;
  reads = r.reads;
  opens = λ _. state;
  none = λ no. absurd (no (inl is));
  thread = r.thread;
  runs = λ _. r.runs;
  calm = r.calm;
  line = r.line;
  unopened = unopened;
  loads = λ number k. two_forms form Run (Load number) is k (run_not_load number);
  checks = λ k. two_forms form Run Check is k run_not_check;
  generates = λ number k. two_forms form Run (Generate number) is k (run_not_generate number);
  help = λ k. two_forms form Run Help is k run_not_help;
  version = λ k. two_forms form Run Version is k run_not_version;
  unread = λ no. absurd (no is);
  undone = λ no. absurd (no (inl is));
}

few_none : (x : Option ℕ) → IfSome x (λ n. IfSome x (λ m. n ≤ m + 0 + 1))
few_none None = tt
few_none (Some n) = omega arith

reads_nothing : (l : Option (List ℕ)) (x : Option ℕ) (n : ℕ) → (n ≡ 9 → ⊥) → ReadsNoMore l l x x n
reads_nothing l x n d = record {
  few = ([], record { taken = takes_none l; bounded = omega arith; few = few_none x });
  one_too_many_at_9 = λ e. absurd (d e);
  short_else = λ _. ([], omega arith, takes_none l);
}

unread_same : (l : Option (List ℕ)) (x : Option ℕ) (i : ℕ) → ReadsNothing l l x x i i
unread_same l x i = record { left = refl; reads = refl; faults = refl }

-- they are of no form
pub program_usage : (ms : Meanings) (kept : Option Durable) (told : List Told) (parts : List PartTold) (form : Option Form) (l : Option (List ℕ)) (x : Option ℕ) (i : ℕ) (seen : Option Contents) (p q : ℕ) (a b : Option (List ℕ)) (f g n : ℕ) (h : List Entry)
    → form ≡ None → q ≡ p → kept ≡ None → n ≡ 2 → h ≡ [] → Writes a b f g (status_line 2) → EndsProgram ms kept told parts form l l x x i i seen p q a b f g n h
program_usage ms kept told parts form l x i seen p q a b f g n h is same none e z w = record {
  ends = inr (inl e);
  usage = (λ _. is, λ _. e);
  read_fault = record { rose_at_3 = λ k. apart n 2 3 e k (λ k. omega (arith, k)); calm_else = λ _. refl };
  disk_fault = disk_calm p q n 2 e (λ k. omega (arith, k)) same;
  write_fault = record {
    rose_at_4 = λ k. apart n 2 4 e k (λ k. omega (arith, k));
    calm_at_0 = λ k. apart n 2 0 e k (λ k. omega (arith, k));
    calm_at_5 = λ k some. apart n 2 5 e k (λ k. omega (arith, k));
    calm_or_later_at_8 = λ _. inr (inl z);
  };
  damaged = λ k. none_touches form is k;
  complete = λ k. not_none form Run k is;
  reads = reads_nothing l x n (λ k. apart n 2 9 e k (λ k. omega (arith, k)));
  opens = λ w. none_works form is w;
  none = λ _. none;
  thread = thread_none kept told h z;
  runs = λ k. not_none form Run k is;
  calm = λ _. calm_none h z;
  line = λ _. subst (λ (k : ℕ). Writes a b f g (status_line k)) (sym e) w;
  unopened = unopened_never kept seen a b f g n 2 h e (λ k. omega (arith, k)) (λ k. omega (arith, k)) (λ k. omega (arith, k));
  loads = λ number k. not_none form (Load number) k is;
  checks = λ k. not_none form Check k is;
  generates = λ number k. not_none form (Generate number) k is;
  help = λ k. not_none form Help k is;
  version = λ k. not_none form Version k is;
  unread = λ _. unread_same l x i;
  undone = λ _. z;
}

-- ---- texts that are told

told_write : (text : List ℕ) (kept : Option Durable) (a b : Option (List ℕ)) (f g n : ℕ) (W : Type 0) → W → Tells text a b f g n → TellsWriteFault kept f g n W
told_write text kept a b f g n W w (inl (e, _, calm)) = record { rose_at_4 = λ k. apart n 0 4 e k (λ k. omega (arith, k)); calm_at_0 = λ _. calm; calm_at_5 = λ _ _. calm; calm_or_later_at_8 = λ _. inr w }
told_write text kept a b f g n W w (inr (e, _, rose)) = record {
  rose_at_4 = λ _. rose;
  calm_at_0 = λ k. apart n 4 0 e k (λ k. omega (arith, k));
  calm_at_5 = λ k some. apart n 4 5 e k (λ k. omega (arith, k));
  calm_or_later_at_8 = λ _. inr w;
}

wanted_write : (kept : Option Durable) (f g n : ℕ) (W : Type 0) → W → n ≡ 8 → TellsWriteFault kept f g n W
wanted_write kept f g n W w e = record {
  rose_at_4 = λ k. apart n 8 4 e k (λ k. omega (arith, k));
  calm_at_0 = λ k. apart n 8 0 e k (λ k. omega (arith, k));
  calm_at_5 = λ k some. apart n 8 5 e k (λ k. omega (arith, k));
  calm_or_later_at_8 = λ _. inr w;
}

said_write : (text : List ℕ) (kept : Option Durable) (a b : Option (List ℕ)) (f g n : ℕ) (W : Type 0) → W → TellsOrWants text a b f g n → TellsWriteFault kept f g n W
said_write text kept a b f g n W w (inl t) = told_write text kept a b f g n W w t
said_write text kept a b f g n W w (inr (e, _)) = wanted_write kept f g n W w e

-- they ask for a text alone
program_text : (ms : Meanings) (kept : Option Durable) (told : List Told) (parts : List PartTold) (form : Option Form) (kind : Form) (text : List ℕ) (l : Option (List ℕ)) (x : Option ℕ) (i : ℕ) (seen : Option Contents) (p q : ℕ) (a b : Option (List ℕ)) (f g n : ℕ) (h : List Entry)
    → form ≡ Some kind → (Run ≡ kind → ⊥) → ((number : ℕ) → Load number ≡ kind → ⊥) → (Check ≡ kind → ⊥) → ((number : ℕ) → form ≡ Some (Generate number) → TellsScript number a b f g n) → (form ≡ Some Help → Tells help_text a b f g n) → (form ≡ Some Version → Tells version_text a b f g n)
    → q ≡ p → kept ≡ None → TellsOrWants text a b f g n → h ≡ [] → EndsProgram ms kept told parts form l l x x i i seen p q a b f g n h
program_text ms kept told parts form kind text l x i seen p q a b f g n h is run load check generates help version same none t z = let c = said_status text a b f g n t in record {
  ends = is_said n c;
  usage = (λ e. absurd (said_other n 2 c (λ k. omega (arith, k)) (λ k. omega (arith, k)) (λ k. omega (arith, k)) e), λ k. not_none form kind is k);
  read_fault = record { rose_at_3 = λ e. absurd (said_other n 3 c (λ k. omega (arith, k)) (λ k. omega (arith, k)) (λ k. omega (arith, k)) e); calm_else = λ _. refl };
  disk_fault = disk_calm p q n n refl (said_other n 5 c (λ k. omega (arith, k)) (λ k. omega (arith, k)) (λ k. omega (arith, k))) same;
  write_fault = said_write text kept a b f g n (WasStoppedAs form ms (opened_state kept told) l l h) (inl z) t;
  damaged = λ w. no_touch form kind is run load check w;
  complete = λ k. two_forms form Run kind k is run;
  reads = reads_nothing l x n (said_other n 9 c (λ k. omega (arith, k)) (λ k. omega (arith, k)) (λ k. omega (arith, k)));
  opens = λ w. no_work form kind is run load w;
  none = λ _. none;
  thread = thread_none kept told h z;
  runs = λ k. two_forms form Run kind k is run;
  calm = λ _. calm_none h z;
  line = not_unread n (said_other n 2 c (λ k. omega (arith, k)) (λ k. omega (arith, k)) (λ k. omega (arith, k))) (said_other n 3 c (λ k. omega (arith, k)) (λ k. omega (arith, k)) (λ k. omega (arith, k))) (said_other n 9 c (λ k. omega (arith, k)) (λ k. omega (arith, k)) (λ k. omega (arith, k)));
  unopened = said_unopened text kept seen a b f g n h z t;
  loads = λ number k. two_forms form (Load number) kind k is (load number);
  checks = λ k. two_forms form Check kind k is check;
  generates = generates;
  help = help;
  version = version;
  unread = λ _. unread_same l x i;
  undone = λ _. z;
}

pub program_help : (ms : Meanings) (kept : Option Durable) (told : List Told) (parts : List PartTold) (form : Option Form) (l : Option (List ℕ)) (x : Option ℕ) (i : ℕ) (seen : Option Contents) (p q : ℕ) (a b : Option (List ℕ)) (f g n : ℕ) (h : List Entry)
    → form ≡ Some Help → q ≡ p → kept ≡ None → Tells help_text a b f g n → h ≡ [] → EndsProgram ms kept told parts form l l x x i i seen p q a b f g n h
program_help ms kept told parts form l x i seen p q a b f g n h is same none t z =
    program_text ms kept told parts form Help help_text l x i seen p q a b f g n h is run_not_help load_not_help check_not_help (λ number k. two_forms form Help (Generate number) is k (help_not_generate number)) (λ _. t) (λ k. two_forms form Help Version is k help_not_version) same none (inl t) z

pub program_version : (ms : Meanings) (kept : Option Durable) (told : List Told) (parts : List PartTold) (form : Option Form) (l : Option (List ℕ)) (x : Option ℕ) (i : ℕ) (seen : Option Contents) (p q : ℕ) (a b : Option (List ℕ)) (f g n : ℕ) (h : List Entry)
    → form ≡ Some Version → q ≡ p → kept ≡ None → Tells version_text a b f g n → h ≡ [] → EndsProgram ms kept told parts form l l x x i i seen p q a b f g n h
program_version ms kept told parts form l x i seen p q a b f g n h is same none t z =
    program_text ms kept told parts form Version version_text l x i seen p q a b f g n h is run_not_version load_not_version check_not_version (λ number k. two_forms form Version (Generate number) is k (version_not_generate number)) (λ k. two_forms form Help Version k is help_not_version) (λ _. t) same none (inl t) z

-- they ask for the script that a number gives
pub program_generate : (ms : Meanings) (kept : Option Durable) (told : List Told) (parts : List PartTold) (form : Option Form) (number : ℕ) (l : Option (List ℕ)) (x : Option ℕ) (i : ℕ) (seen : Option Contents) (p q : ℕ) (a b : Option (List ℕ)) (f g n : ℕ) (h : List Entry)
    → form ≡ Some (Generate number) → q ≡ p → kept ≡ None → TellsScript number a b f g n → h ≡ [] → EndsProgram ms kept told parts form l l x x i i seen p q a b f g n h
program_generate ms kept told parts form number l x i seen p q a b f g n h is same none t z =
    program_text ms kept told parts form (Generate number) (generated_text number) l x i seen p q a b f g n h is (run_not_generate number) (λ other. load_not_generate other number) (check_not_generate number) (λ other k. subst (λ m. TellsScript m a b f g n) (one_number form number other is k) t)
    (λ k. two_forms form Help (Generate number) k is (help_not_generate number)) (λ k. two_forms form Version (Generate number) k is (version_not_generate number)) same none t.told z

-- ---- what the areas hold

checked_status : (seen : Option Contents) (a b : Option (List ℕ)) (f g n : ℕ) → TellsFound seen a b f g n ⊎ WasUnopened None n ⊎ (n ≡ 8) → IsStatus n
checked_status seen a b f g n (inl t) = is_told n (told_status (check_text t.found) a b f g n t.told)
checked_status seen a b f g n (inr (inl u)) = is_refused None n u
checked_status seen a b f g n (inr (inr e)) = inr (inr (inr (inr (inr (inl e)))))

checked_other : (seen : Option Contents) (a b : Option (List ℕ)) (f g n t : ℕ) → TellsFound seen a b f g n ⊎ WasUnopened None n ⊎ (n ≡ 8) → (0 ≡ t → ⊥) → (4 ≡ t → ⊥) → (5 ≡ t → ⊥) → (7 ≡ t → ⊥) → (8 ≡ t → ⊥) → n ≢ t
checked_other seen a b f g n t (inl o) d0 d4 d5 d7 d8 = told_other n t (told_status (check_text o.found) a b f g n o.told) d0 d4
checked_other seen a b f g n t (inr (inl u)) d0 d4 d5 d7 d8 = not_refused None n t u d5 d7
checked_other seen a b f g n t (inr (inr e)) d0 d4 d5 d7 d8 = λ k. apart n 8 t e k d8

checked_write : (kept : Option Durable) (seen : Option Contents) (a b : Option (List ℕ)) (f g n : ℕ) (W : Type 0) → kept ≡ None → W → TellsFound seen a b f g n ⊎ WasUnopened None n ⊎ (n ≡ 8) → TellsWriteFault kept f g n W
checked_write kept seen a b f g n W none w (inl t) = told_write (check_text t.found) kept a b f g n W w t.told
checked_write kept seen a b f g n W none w (inr (inl u)) = record {
  rose_at_4 = λ e. refused_4 None n u e;
  calm_at_0 = λ e. refused_0 None n u e;
  calm_at_5 = λ _ some. some_not_none kept some none;
  calm_or_later_at_8 = λ _. inr w;
}
checked_write kept seen a b f g n W none w (inr (inr e)) = wanted_write kept f g n W w e

-- the words ask what the areas hold
pub program_check : (ms : Meanings) (kept : Option Durable) (told : List Told) (parts : List PartTold) (form : Option Form) (l : Option (List ℕ)) (x : Option ℕ) (i : ℕ) (seen : Option Contents) (p q : ℕ) (a b : Option (List ℕ)) (f g n : ℕ) (h : List Entry)
    → form ≡ Some Check → TellsDiskFault p q n → TellsUnopened kept seen a b f g n h → IfSome seen (λ both. FindsDamage both n) → kept ≡ None → Checks seen p q a b f g n → h ≡ [] → EndsProgram ms kept told parts form l l x x i i seen p q a b f g n h
program_check ms kept told parts form l x i seen p q a b f g n h is fault unopened damaged none t z = record {
  ends = checked_status seen a b f g n t.tells;
  usage = (λ e. absurd (checked_other seen a b f g n 2 t.tells (λ k. omega (arith, k)) (λ k. omega (arith, k)) (λ k. omega (arith, k)) (λ k. omega (arith, k)) (λ k. omega (arith, k)) e), λ k. not_none form Check is k);
  read_fault = record { rose_at_3 = λ e. absurd (checked_other seen a b f g n 3 t.tells (λ k. omega (arith, k)) (λ k. omega (arith, k)) (λ k. omega (arith, k)) (λ k. omega (arith, k)) (λ k. omega (arith, k)) e); calm_else = λ _. refl };
  disk_fault = fault;
  write_fault = checked_write kept seen a b f g n (WasStoppedAs form ms (opened_state kept told) l l h) none (inl z) t.tells;
  damaged = λ _. damaged;
  complete = λ k. two_forms form Run Check k is run_not_check;
  reads = reads_nothing l x n (checked_other seen a b f g n 9 t.tells (λ k. omega (arith, k)) (λ k. omega (arith, k)) (λ k. omega (arith, k)) (λ k. omega (arith, k)) (λ k. omega (arith, k)));
  opens = λ w. no_work form Check is run_not_check load_not_check w;
  none = λ _. none;
  thread = thread_none kept told h z;
  runs = λ k. two_forms form Run Check k is run_not_check;
  calm = λ _. calm_none h z;
  line = not_unread n (checked_other seen a b f g n 2 t.tells (λ k. omega (arith, k)) (λ k. omega (arith, k)) (λ k. omega (arith, k)) (λ k. omega (arith, k)) (λ k. omega (arith, k))) (checked_other seen a b f g n 3 t.tells (λ k. omega (arith, k)) (λ k. omega (arith, k)) (λ k. omega (arith, k)) (λ k. omega (arith, k)) (λ k. omega (arith, k))) (checked_other seen a b f g n 9 t.tells (λ k. omega (arith, k)) (λ k. omega (arith, k)) (λ k. omega (arith, k)) (λ k. omega (arith, k)) (λ k. omega (arith, k)));
  unopened = unopened;
  loads = λ number k. two_forms form (Load number) Check k is (load_not_check number);
  checks = λ _. t;
  generates = λ number k. two_forms form Check (Generate number) is k (check_not_generate number);
  help = λ k. two_forms form Check Help is k check_not_help;
  version = λ k. two_forms form Check Version is k check_not_version;
  unread = λ _. unread_same l x i;
  undone = λ _. z;
}

-- ---- the script that a number gives

-- it was run, as far as memory sufficed, and its summary was written; or no state was opened
pub ends_loaded : (ms : Meanings) (number : ℕ) (kept : Option Durable) (parts : List PartTold) (told : List Told) (seen : Option Contents) (p q : ℕ) (a b : Option (List ℕ)) (f g n : ℕ) (h : List Entry)
    → TellsDiskFault p q n → TellsUnopened kept seen a b f g n h
    → Performs (Shuffle ms (opened_state kept told) (generated number)) (CutShuffle ms (opened_state kept told) (generated number)) (StoppedShuffle ms (opened_state kept told) (generated number)) kept (report_of Summary parts) (opened_state kept told) a b f g n h ⊎ IsRefused kept n h
    → EndsLoad ms number kept (opened_state kept told) seen p q a b f g n h
ends_loaded ms number kept parts told seen p q a b f g n h fault unopened (inl o) = record {
  write_fault = o.fault;
  thread = o.thread;
  loads = record {
    ends = loaded_of kept n o.ends;
    done = o.done;
    text = (performs_for (Shuffle ms (opened_state kept told) (generated number)) (CutShuffle ms (opened_state kept told) (generated number)) (StoppedShuffle ms (opened_state kept told) (generated number)) kept summary_from (report_of Summary parts) (opened_state kept told) a b f g n h refl o).text;
    complete = λ good sound both is whole. well_of kept n o.ends (λ four. good (o.fault.rose_at_4 four)) (λ five. sound (fault.rose_at_5 five));
  };
  calm = o.calm;
}
ends_loaded ms number kept parts told seen p q a b f g n h fault unopened (inr r) = record {
  write_fault = record {
    rose_at_4 = λ e. refused_4 kept n r.ends e;
    calm_at_0 = λ e. refused_0 kept n r.ends e;
    calm_at_5 = λ e some. refused_5 kept n r.ends e some;
    calm_or_later_at_8 = λ e. refused_8 kept n r.ends e;
  };
  thread = thread_none kept told h r.nothing;
  loads = record {
    ends = inr (inl r.ends);
    done = record { all_if_run = λ w. refused_run kept n r.ends w; some_at_8 = λ e. refused_8 kept n r.ends e };
    text = record {
      all_at_0 = λ e. refused_0 kept n r.ends e;
      all_at_5 = λ e some. refused_5 kept n r.ends e some;
      front_at_4 = λ e. refused_4 kept n r.ends e;
      front_at_8 = λ e. refused_8 kept n r.ends e;
    };
    complete = λ _ sound both is whole. refused_complete kept seen p q a b f g n h fault unopened sound both is whole r.ends;
  };
  calm = λ _. calm_none h r.nothing;
}

-- the words ask for it
pub program_load : (ms : Meanings) (kept : Option Durable) (told : List Told) (parts : List PartTold) (form : Option Form) (number : ℕ) (l : Option (List ℕ)) (x : Option ℕ) (i : ℕ) (seen : Option Contents) (p q : ℕ) (a b : Option (List ℕ)) (f g n : ℕ) (h : List Entry)
    → form ≡ Some (Load number) → EndsLoad ms number kept (opened_state kept told) seen p q a b f g n h → TellsDiskFault p q n → TellsUnopened kept seen a b f g n h → IfSome seen (λ both. FindsDamage both n) → TellsState kept seen n h
    → EndsProgram ms kept told parts form l l x x i i seen p q a b f g n h
program_load ms kept told parts form number l x i seen p q a b f g n h is o fault unopened damaged state = let c = o.loads.ends in record {
  ends = is_loaded kept n c;
  usage = (λ e. absurd (not_loaded kept n 2 c (λ k. omega (arith, k)) (λ k. omega (arith, k)) (λ k. omega (arith, k)) (λ k. omega (arith, k)) (λ k. omega (arith, k)) e), λ k. not_none form (Load number) is k);
  read_fault = record { rose_at_3 = λ e. absurd (not_loaded kept n 3 c (λ k. omega (arith, k)) (λ k. omega (arith, k)) (λ k. omega (arith, k)) (λ k. omega (arith, k)) (λ k. omega (arith, k)) e); calm_else = λ _. refl };
  disk_fault = fault;
  write_fault = fault_as kept f g n ((h ≡ []) ⊎ StoppedShuffle ms (opened_state kept told) (generated number) h) (WasStoppedAs form ms (opened_state kept told) l l h) (stopped_load form number ms (opened_state kept told) l l h is) o.write_fault;
  damaged = λ _. damaged;
  complete = λ k. two_forms form Run (Load number) k is (run_not_load number);
  reads = reads_nothing l x n (not_loaded kept n 9 c (λ k. omega (arith, k)) (λ k. omega (arith, k)) (λ k. omega (arith, k)) (λ k. omega (arith, k)) (λ k. omega (arith, k)));
  opens = λ _. state;
  none = λ no. absurd (no (inr (number, is)));
  thread = o.thread;
  runs = λ k. two_forms form Run (Load number) k is (run_not_load number);
  calm = o.calm;
  line = not_unread n (not_loaded kept n 2 c (λ k. omega (arith, k)) (λ k. omega (arith, k)) (λ k. omega (arith, k)) (λ k. omega (arith, k)) (λ k. omega (arith, k))) (not_loaded kept n 3 c (λ k. omega (arith, k)) (λ k. omega (arith, k)) (λ k. omega (arith, k)) (λ k. omega (arith, k)) (λ k. omega (arith, k))) (not_loaded kept n 9 c (λ k. omega (arith, k)) (λ k. omega (arith, k)) (λ k. omega (arith, k)) (λ k. omega (arith, k)) (λ k. omega (arith, k)));
  unopened = unopened;
  loads = λ other k. subst (λ m. LoadsScript ms m kept (opened_state kept told) seen p q a b f g n h) (one_load form number other is k) o.loads;
  checks = λ k. two_forms form Check (Load number) k is (check_not_load number);
  generates = λ m k. two_forms form (Generate m) (Load number) k is (generate_not_load m number);
  help = λ k. two_forms form (Load number) Help is k (load_not_help number);
  version = λ k. two_forms form (Load number) Version is k (load_not_version number);
  unread = λ _. unread_same l x i;
  undone = λ no. absurd (no (inr (number, is)));
}
