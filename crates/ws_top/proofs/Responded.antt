-- What a response tells of the bytes that were read.
use Rattle.std.proofs.Common.{◌≡◌, ◌⊎◌, inl, inr, ℕ, true, List, [], Option, None, sym, subst}
use Rattle.std.specs.Prelude.{Result, Err, MatchResult}
use Rattle.script_lang.specs.declared.script.Script.{Script}
use Rattle.script_words.specs.declared.error.ScriptError.{ScriptError}
use Rattle.script_words.specs.declared.error.ScriptError.TheVariants.{BadLine, Memory}
use Rattle.script_lang.specs.Scripts.{IsScript, IsFirstBad}
use Rattle.core_event.specs.declared.entry.Entry.{Entry}
use Rattle.builder_api.specs.Meanings.{Meanings}
use Rattle.builder_api.specs.Told.{Told}
use Rattle.save_round.specs.Told.{Told as PartTold}
use Rattle.ws_durable.specs.declared.durable.Durable.{Durable}
use Rattle.ws_core.specs.States.{Moment}
use Rattle.ws_core.specs.Histories.{has_entered, replay}
use Rattle.ws_core.specs.Sessions.{Session}
use Rattle.run_order.proofs.Whole.{cut_of_shuffle}
use Rattle.phase_run.specs.Plans.{Made}
use Rattle.script_plan.specs.Plans.{phases_plan}
use Rattle.save_store.specs.declared.faults.OpenFault.{OpenFault}
use Rattle.save_store.specs.declared.faults.OpenFault.TheVariants as fault
use Rattle.ws_opening.specs.Opened.{opened_state}
use Rattle.ws_top.specs.Inside.Opening.{Refuses}
use Rattle.ws_top.specs.Inside.Parts.{Nothing, Same, Performs, IsRefused, SaysBadLine, Responds}
use Rattle.ws_top.specs.Outcomes.{SpellsNone, Shuffle, CutShuffle, StoppedShuffle, Spelled, Writes}
use Rattle.ws_top.specs.declared.report.Telling.TheVariants.{All}
use Rattle.ws_top.specs.Texts.{Report, report_of, status_line, bad_line}
use Rattle.ws_top.proofs.Performed.{performs_as, performs_none, performs_nothing}

not_memory : (line : ℕ) → BadLine line ≡ Memory → ⊥
not_memory line h = let no : BadLine line ≡ Memory = h in cc

-- bytes of which a line is bad spell no script
pub none_spelled : (bytes : List ℕ) (r : Result Script ScriptError) (line : ℕ) → r ≡ Err (BadLine line)
    → ((script : Script) → IsScript bytes script → MatchResult r (λ found. found ≡ script) (λ e. e ≡ Memory)) → SpellsNone bytes
none_spelled bytes r line e all script s =
    not_memory line (subst (λ (q : Result Script ScriptError). MatchResult q (λ found. found ≡ script) (λ x. x ≡ Memory)) e (all script s))

-- a script that the bytes spell was performed, or no state was opened for it
pub responds_script : (ms : Meanings) (kept : Option Durable) (parts : List PartTold) (opened : Moment) (bytes : List ℕ) (script : Script) (a b : Option (List ℕ)) (f g n : ℕ) (h : List Entry) → IsScript bytes script
    → Performs (Shuffle ms opened script) (CutShuffle ms opened script) (StoppedShuffle ms opened script) kept (report_of All parts) opened a b f g n h ⊎ IsRefused kept n h → Responds ms kept parts opened bytes a b f g n h
responds_script ms kept parts opened bytes script a b f g n h spelled (inl p) =
    inl (performs_as (Shuffle ms opened script) (CutShuffle ms opened script) (StoppedShuffle ms opened script)
    (Spelled (Shuffle ms opened) bytes) (Spelled (CutShuffle ms opened) bytes) (Spelled (StoppedShuffle ms opened) bytes) kept (report_of All parts) opened a b f g n h
    (λ m. record { script = script; spelled = spelled; made = m })
    (λ m. record { script = script; spelled = spelled; made = m })
    (λ m. record { script = script; spelled = spelled; made = m }) p)
responds_script ms kept parts opened bytes script a b f g n h spelled (inr r) = inr (inr (record { script = script; spelled = spelled; refused = r }))

-- memory wanted before anything was done
pub responds_nothing : (ms : Meanings) (kept : Option Durable) (parts : List PartTold) (told : List Told) (bytes : List ℕ) (a b : Option (List ℕ)) (f g n : ℕ) (h : List Entry) → n ≡ 8 → h ≡ [] → kept ≡ None → Writes a b f g (status_line 8)
    → Responds ms kept parts (opened_state kept told) bytes a b f g n h
responds_nothing ms kept parts told bytes a b f g n h e z unkept w = let opened = opened_state kept told in
    inl (performs_none (Spelled (Shuffle ms opened) bytes) (Spelled (CutShuffle ms opened) bytes) (Spelled (StoppedShuffle ms opened) bytes) kept (report_of All parts) opened a b f g n h (performs_nothing kept (report_of All parts) a b f g n told h e z unkept w))

-- the first bad line was told, or memory wanted for it
pub responds_bad : (ms : Meanings) (kept : Option Durable) (parts : List PartTold) (told : List Told) (bytes : List ℕ) (line : ℕ) (a b : Option (List ℕ)) (f g n : ℕ) (h : List Entry) → SpellsNone bytes → IsFirstBad bytes line
    → SaysBadLine line a b f g n → h ≡ [] → kept ≡ None → Responds ms kept parts (opened_state kept told) bytes a b f g n h
responds_bad ms kept parts told bytes line a b f g n h none place (inl (e, w)) z unkept = inr (inl (record { ends = e; none = none; nothing = z; line = line; place = place; written = w }))
responds_bad ms kept parts told bytes line a b f g n h none place (inr (e, w)) z unkept = responds_nothing ms kept parts told bytes a b f g n h e z unkept w

-- memory wanted before a script that is one was run
pub performs_wanted : (ms : Meanings) (kept : Option Durable) (report : Report) (told : List Told) (script : Script) (a b : Option (List ℕ)) (f g n : ℕ) (h : List Entry) → n ≡ 8 → h ≡ [] → kept ≡ None → Writes a b f g (status_line 8)
    → Performs (Shuffle ms (opened_state kept told) script) (CutShuffle ms (opened_state kept told) script) (StoppedShuffle ms (opened_state kept told) script) kept report (opened_state kept told) a b f g n h
performs_wanted ms kept report told script a b f g n h e z unkept w = let opened = opened_state kept told in
    performs_none (Shuffle ms opened script) (CutShuffle ms opened script) (StoppedShuffle ms opened script) kept report opened a b f g n h (performs_nothing kept report a b f g n told h e z unkept w)

-- the areas couldn't be read, or memory wanted
pub performs_refused : (ms : Meanings) (kept : Option Durable) (report : Report) (told : List Told) (script : Script) (e : OpenFault) (a b : Option (List ℕ)) (f g n : ℕ) (h : List Entry) → Refuses e a b f g n → h ≡ [] → kept ≡ None
    → Performs (Shuffle ms (opened_state kept told) script) (CutShuffle ms (opened_state kept told) script) (StoppedShuffle ms (opened_state kept told) script) kept report (opened_state kept told) a b f g n h ⊎ IsRefused kept n h
performs_refused ms kept report told script fault.Disk a b f g n h (five, w) z unkept = inr (record { ends = inl (five, unkept); nothing = z })
performs_refused ms kept report told script (fault.Damaged damage) a b f g n h (inl (seven, w)) z unkept = inr (record { ends = inr seven; nothing = z })
performs_refused ms kept report told script (fault.Damaged damage) a b f g n h (inr (eight, w)) z unkept = inl (performs_wanted ms kept report told script a b f g n h eight z unkept w)
performs_refused ms kept report told script fault.Memory a b f g n h (eight, w) z unkept = inl (performs_wanted ms kept report told script a b f g n h eight z unkept w)

-- the whole script was run
pub performed : (ms : Meanings) (kept : Option Durable) (report : Report) (opened : Moment) (new : Session) (script : Script) (a b : Option (List ℕ)) (f g n : ℕ) (h : List Entry) → new.opened ≡ opened → Shuffle ms opened script new.history
    → Performs (Same new.history) (Same new.history) Nothing kept report new.opened a b f g n h → Performs (Shuffle ms opened script) (CutShuffle ms opened script) (StoppedShuffle ms opened script) kept report opened a b f g n h
performed ms kept report opened new script a b f g n h at whole p =
    performs_as (Same new.history) (Same new.history) Nothing (Shuffle ms opened script) (CutShuffle ms opened script) (StoppedShuffle ms opened script) kept report opened a b f g n h
    (λ s. subst (Shuffle ms opened script) (sym s) whole)
    (λ s. subst (CutShuffle ms opened script) (sym s) (cut_of_shuffle (Made ms) opened (phases_plan script.phases) 1 new.history whole))
    (λ x. absurd x) (subst (λ m. Performs (Same new.history) (Same new.history) Nothing kept report m a b f g n h) at p)

-- it was run as far as memory sufficed
pub performed_cut : (ms : Meanings) (kept : Option Durable) (report : Report) (opened : Moment) (new : Session) (script : Script) (a b : Option (List ℕ)) (f g n : ℕ) (h : List Entry) → new.opened ≡ opened → CutShuffle ms opened script new.history
    → (new.history ≡ []) ⊎ (has_entered 1 (replay new.opened new.history) ≡ true)
    → Performs Nothing (Same new.history) (Same new.history) kept report new.opened a b f g n h → Performs (Shuffle ms opened script) (CutShuffle ms opened script) (StoppedShuffle ms opened script) kept report opened a b f g n h
performed_cut ms kept report opened new script a b f g n h at cut there p =
    performs_as Nothing (Same new.history) (Same new.history) (Shuffle ms opened script) (CutShuffle ms opened script) (StoppedShuffle ms opened script) kept report opened a b f g n h
    (λ x. absurd x)
    (λ s. subst (CutShuffle ms opened script) (sym s) cut)
    (λ s. subst (StoppedShuffle ms opened script) (sym s) (record { cut = cut; there = subst (λ m. (new.history ≡ []) ⊎ (has_entered 1 (replay m new.history) ≡ true)) at there }))
    (subst (λ m. Performs Nothing (Same new.history) (Same new.history) kept report m a b f g n h) at p)

-- the script was performed on the state that was opened, said of an equal one
pub performed_from : (ms : Meanings) (kept : Option Durable) (report : Report) (opened s : Moment) (script : Script) (a b : Option (List ℕ)) (f g n : ℕ) (h : List Entry) → opened ≡ s
    → Performs (Shuffle ms opened script) (CutShuffle ms opened script) (StoppedShuffle ms opened script) kept report opened a b f g n h → Performs (Shuffle ms s script) (CutShuffle ms s script) (StoppedShuffle ms s script) kept report s a b f g n h
performed_from ms kept report opened s script a b f g n h at p = subst (λ m. Performs (Shuffle ms m script) (CutShuffle ms m script) (StoppedShuffle ms m script) kept report m a b f g n h) at p
