-- What is claimed of no builders.
use Rattle.std.proofs.Common.{◌≡◌, [], Option, Some, None}
use Rattle.std.specs.Prelude.{IfSome}
use Rattle.builder_api.specs.Meanings.{Meaning, Meanings}
use Rattle.builder_api.specs.Told.{HaveMeanings, first_named}

pub none_mean : (ms : Meanings) → HaveMeanings ms []
none_mean ms n = each (ms n)
  where
    each : (o : Option Meaning) → IfSome o (λ m. IfSome (first_named n []) (λ b. b.means ≡ Some m))
    each None = tt
    each (Some m) = tt
