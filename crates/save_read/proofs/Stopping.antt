-- The place at which a text can't go on.
use Rattle.std.proofs.Common.{◌≡◌, ℕ, List, take, drop, Result, Err, refl, sym, ap, ◌∙◌, subst}
use Rattle.std.proofs.lemmas.List.{take-append-drop}
use Rattle.ws_elem.specs.Trees.{Tree}
use Rattle.save_form.specs.Forms.{read_all}
use Rattle.save_form.specs.Gives.{Fails}
use Rattle.save_form.specs.declared.stop.Stop.{Stop}
use Rattle.save_form.specs.declared.stop.Stop.TheVariants.{Bad}
use Rattle.save_form.specs.declared.stop.Stuck.{Stuck}
use Rattle.save_form.specs.declared.stop.Stuck.TheVariants as stuck
use Rattle.save_form.proofs.Steps.{err_is}
use Rattle.save_form.proofs.Wholes.{all_again, all_first}
use Rattle.save_state.specs.declared.state.State.{State}
use Rattle.save_state.specs.Fits.{FitsState}
use Rattle.save_state.proofs.StateLaws.{state_lawful, state_stops}
use Rattle.save_build.specs.Told.{told_tree}
use Rattle.save_read.specs.declared.error.ReadError.{ReadError}
use Rattle.save_read.specs.Texts.{form_of, stop_in, StopsAt, IsSpelled}
use Rattle.save_read.specs.Inside.Stops.{Becomes, Stops}

module _ (base shelf : Tree) where
  abbrev Fits : State → Type 0
  Fits = FitsState (told_tree base) (told_tree shelf)

  -- what can't stand in a front of the bytes can't stand in them
  front_stops : (bytes : List ℕ) (stop : Stop) → read_all (form_of base shelf) bytes ≡ Err stop → (n m : ℕ) → read_all (form_of base shelf) (take n bytes) ≡ Err (Bad m) → stop ≡ Bad m
  front_stops bytes stop read n m front =
      let form = form_of base shelf in
      let is = all_first Fits form (state_lawful (told_tree base) (told_tree shelf)) (state_stops (told_tree base) (told_tree shelf)) (take n bytes) (Bad m) front in
      let whole = subst (λ (x : List ℕ). read_all form x ≡ Err (Bad m)) (take-append-drop n bytes) (is.lasting (drop n bytes) m refl) in
      let both : (let r : Result State Stop = Err stop in r) ≡ Err (Bad m) = sym read ∙ whole in
      err_is {A = State} stop (Bad m) both

  pub stops : (bytes : List ℕ) (stop : Stop) → read_all (form_of base shelf) bytes ≡ Err stop → StopsAt base shelf bytes (stop_in bytes stop)
  stops bytes stop read = record {
    stop = stop;
    read = read;
    there = refl;
    first = all_first Fits (form_of base shelf) (state_lawful (told_tree base) (told_tree shelf)) (state_stops (told_tree base) (told_tree shelf)) bytes stop read;
    fronts = front_stops bytes stop read;
  }

  pub stuck_stops : (bytes : List ℕ) (why : Stuck) (e : ReadError) → Becomes bytes why e → Fails why (read_all (form_of base shelf) bytes) → Stops base shelf bytes e
  stuck_stops bytes (stuck.At stop) e is fails = subst (Stops base shelf bytes) (sym is) (stops bytes stop fails)
  stuck_stops bytes stuck.Memory e is fails = subst (Stops base shelf bytes) (sym is) tt

  -- there is one such place, and bytes that spell a state have none
  pub stop_once : (bytes : List ℕ) (x y : ℕ) → StopsAt base shelf bytes x → StopsAt base shelf bytes y → x ≡ y
  stop_once bytes x y one two =
      let both : (let r : Result State Stop = Err one.stop in r) ≡ Err two.stop = sym one.read ∙ two.read in
      one.there ∙ ap (stop_in bytes) (err_is {A = State} one.stop two.stop both) ∙ sym two.there

  pub spelled_on : (bytes : List ℕ) (at : ℕ) → StopsAt base shelf bytes at → IsSpelled base shelf bytes → ⊥
  spelled_on bytes at stop is =
      let form = form_of base shelf in
      let read = ap (read_all form) is.2 ∙ all_again Fits form (state_lawful (told_tree base) (told_tree shelf)) is.0 is.1 in
      absurd (cc (sym stop.read ∙ read))
