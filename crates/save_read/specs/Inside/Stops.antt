-- Why nothing was read.
use Rattle.std.specs.Prelude.{◌≡◌, ℕ, List}
use Rattle.ws_elem.specs.Trees.{Tree}
use Rattle.save_form.specs.declared.stop.Stuck.{Stuck}
use Rattle.save_form.specs.declared.stop.Stuck.TheVariants as stuck
use Rattle.save_read.specs.declared.error.ReadError.{ReadError}
use Rattle.save_read.specs.declared.error.ReadError.TheVariants.{Bad, Memory}
use Rattle.save_read.specs.declared.error.TextCause.{TextCause}
use Rattle.save_read.specs.declared.error.TextCause.TheVariants.{BadText, BadState}
use Rattle.save_read.specs.Texts.{stop_in, StopsAt}

-- why nothing was read of these bytes
abbrev pub Becomes : List ℕ → Stuck → ReadError → Type 0
Becomes bytes (stuck.At stop) e = e ≡ Bad (stop_in bytes stop) BadText
Becomes bytes stuck.Memory e = e ≡ Memory

-- the text can't go on, or memory wanted
abbrev pub StopsFor : Tree → Tree → List ℕ → ℕ → TextCause → Type 0
StopsFor base shelf bytes at BadText = StopsAt base shelf bytes at
StopsFor base shelf bytes at BadState = ⊥

abbrev pub Stops : Tree → Tree → List ℕ → ReadError → Type 0
Stops base shelf bytes (Bad at cause) = StopsFor base shelf bytes at cause
Stops base shelf bytes Memory = Unit {0}
