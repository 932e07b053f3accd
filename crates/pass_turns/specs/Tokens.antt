-- What the calls of the lock make of a token: words that private code alone speaks of.
use Rattle.std.specs.Prelude.{ℕ, List, [], ◌++◌, true, false, Option}
use Rattle.ws_turn.specs.Lists.{of, numbers}
use Rattle.ws_turn.specs.Passes.{Known}

-- it took the machine, which stands for this list
abbrev pub took : {E : Type 0} → Known E → List E → Known E
took k h = record k { seen = h; joined = []; holds = true }

-- it gave the machine back, which stands for this list, that has these entries more
abbrev pub gave : {E : Type 0} → (E → ℕ) → (E → Option ℕ) → Known E → List E → List E → Known E
gave by gives k h more = record k { seen = h; mine = k.mine ++ of by k.number more; lost = k.lost ++ numbers gives more; joined = []; holds = false }
