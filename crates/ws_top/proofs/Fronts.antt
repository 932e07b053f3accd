-- Texts that are written one after another, and fronts of them.
use Rattle.std.proofs.Common.{◌≡◌, inl, inr, ℕ, List, [], ◌++◌, Option, refl, sym, ◌∙◌, ap, subst, append-nil}
use Rattle.std.specs.Prelude.{Result, Ok, Err, OnOk, OnErr}
use Rattle.ws_outside.specs.Faults.{Rose, HasCause}
use Rattle.ws_outside.specs.Streams.{Gains, GainsFront}
use Rattle.core_event.specs.declared.entry.Entry.{Entry}
use Rattle.run_text.specs.declared.writing.Unwritten.{Unwritten}
use Rattle.run_text.specs.declared.writing.Unwritten.TheVariants.{Fault, Memory}
use Rattle.run_text.specs.Printing.{PrintsSome, IsCause, PrintsAll, PrintsFront}
use Rattle.run_text.proofs.Printed.{some_of, some_front, some_before, some_more, whole_of, front_of}
use Rattle.run_text.proofs.Written.{gains_more}
use Rattle.ws_core.specs.States.{Moment}
use Rattle.ws_top.specs.Inside.Parts.{WritesLast, WritesReport, IsBreak, WritesRun}
use Rattle.ws_top.specs.Outcomes.{Writes}
use Rattle.ws_top.specs.Texts.{Report, status_line}

-- all of a text is a front of it
pub all_is_front : (a b : Option (List ℕ)) (t : List ℕ) → Gains a t b → GainsFront a t b
all_is_front a b t g = some_front a b [] t t (record { waits = []; printed = record { front = t; written = g; whole = append-nil t } }) refl

some_of_front : (a b : Option (List ℕ)) (t : List ℕ) → GainsFront a t b → PrintsSome a b [] t
some_of_front a b t h = let s = some_of a b t h in record {
  waits = s.waits;
  printed = record { front = s.printed.front; written = s.printed.written; whole = s.printed.whole ∙ append-nil t };
}

-- a front of a text is a front of a longer one
pub front_part : (a b : Option (List ℕ)) (t u : List ℕ) → GainsFront a t b → GainsFront a (t ++ u) b
front_part a b t u h = some_front a b [] (t ++ u) (t ++ u) (some_before a b [] t u (some_of_front a b t h)) refl

-- a text and a front of the next one
pub front_after : (a b c : Option (List ℕ)) (t u : List ℕ) → Gains a t b → GainsFront b u c → GainsFront a (t ++ u) c
front_after a b c t u g h = some_front a c [] (t ++ u) (t ++ u)
    (some_more a b c [] t [] u (record { front = t; written = g; whole = append-nil t }) (some_of_front b c u h)) refl

-- a count that stood still and then rose
pub rose_on : (f g h : ℕ) → g ≡ f → Rose g h → Rose f h
rose_on f g h e r = subst (λ (n : ℕ). Rose n h) e r

-- a text was written, or some front of it
pub writes_of : {T E : Type 0} (a b : Option (List ℕ)) (f g : ℕ) (t : List ℕ) (r : Result T E) → OnOk r (Gains a t b) → OnErr r (GainsFront a t b) → HasCause f g r → Writes a b f g t
writes_of a b f g t (Ok x) w p c = inl w
writes_of a b f g t (Err x) w p c = inr (p, c)

-- some front of a text was written
pub front_of_writes : (a b : Option (List ℕ)) (f g : ℕ) (t : List ℕ) → Writes a b f g t → GainsFront a t b
front_of_writes a b f g t (inl w) = all_is_front a b t w
front_of_writes a b f g t (inr (p, _)) = p

-- what was printed and waits was written, or a front of it
pub report_then : {T : Type 0} (a b c : Option (List ℕ)) (f g h : ℕ) (t q : List ℕ) (r : Result T Unwritten) → PrintsAll a b f g [] t q → WritesLast b c g h q r → WritesReport a c f h t r
report_then a b c f g h t q (Ok x) d (w, e) = (whole_of a b c t q d.printed w, e ∙ d.calm)
report_then a b c f g h t q (Err x) d (k, w, rose) = (front_of a b c t q d.printed w, subst (λ (e : Unwritten). IsCause e f h) (sym k) (rose_on f g h d.calm rose))

-- some of it was printed
pub report_some : (a b : Option (List ℕ)) (f g : ℕ) (p t : List ℕ) (e : Unwritten) → p ≡ [] → PrintsFront a b f g p t e → GainsFront a t b × IsCause e f g
report_some a b f g p t e z d = (some_front a b p t t d.some (ap (λ (xs : List ℕ). xs ++ t) (sym z)), d.cause)

-- the last line was written after what comes before it, or a front of it
pub run_then : {T : Type 0} (a b c : Option (List ℕ)) (f g i : ℕ) (report : Report) (opened : Moment) (h : List Entry) (n : ℕ) (line : List ℕ) (r : Result T Unwritten)
    → line ≡ status_line n → Gains a (report opened h) b × (g ≡ f) → WritesLast b c g i line r → WritesRun a c f i report opened h n r
run_then a b c f g i report opened h n line (Ok x) l (d, calm) (w, e) =
    (gains_more a b c (report opened h) (status_line n) d (subst (λ (xs : List ℕ). Gains b xs c) l w), e ∙ calm)
run_then a b c f g i report opened h n line (Err x) l (d, calm) (k, w, rose) = subst (λ (e : Unwritten). IsBreak e a c f i report opened h n) (sym k)
    (front_after a b c (report opened h) (status_line n) d (subst (λ (xs : List ℕ). GainsFront b xs c) l w), rose_on f g i calm rose)

-- what comes before the last line wasn't written whole
pub run_some : (a b : Option (List ℕ)) (f g : ℕ) (report : Report) (opened : Moment) (h : List Entry) (n : ℕ) (e : Unwritten) → GainsFront a (report opened h) b × IsCause e f g → IsBreak e a b f g report opened h n
run_some a b f g report opened h n Fault (w, c) = (front_part a b (report opened h) (status_line n) w, c)
run_some a b f g report opened h n Memory (w, c) = (w, c)
