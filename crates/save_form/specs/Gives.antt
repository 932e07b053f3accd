-- What a call that reads gives, where its form reads this.
use Rattle.std.specs.Prelude.{◌≡◌, Result, Ok, Err}
use Rattle.ws_wire.specs.Fields.{Input}
use Rattle.save_form.specs.declared.stop.Stop.{Stop}
use Rattle.save_form.specs.declared.stop.Stuck.{Stuck}
use Rattle.save_form.specs.declared.stop.Stuck.TheVariants.{At, Memory}
use Rattle.save_form.specs.Forms.{Reading}

-- where reading can't go on, it is at this stop; memory that is wanting tells nothing
abbrev pub Fails : {A : Type 0} → Stuck → Result A Stop → Type 0
Fails (At stop) reading = reading ≡ Err stop
Fails Memory reading = Unit {0}

-- the value that is read, with the input behind it
abbrev pub Gives : {A : Type 0} → Result A Stuck → Input → Reading A → Type 0
Gives (Ok a) after reading = reading ≡ Ok (a, after)
Gives (Err stuck) after reading = Fails stuck reading

-- the value of a whole text
abbrev pub GivesAll : {A : Type 0} → Result A Stuck → Result A Stop → Type 0
GivesAll (Ok a) reading = reading ≡ Ok a
GivesAll (Err stuck) reading = Fails stuck reading
