-- How the areas are called.
use Rattle.std.specs.Prelude.{ℕ, List, codes}
use Rattle.ws_outside.specs.declared.contents.Which.{Which}
use Rattle.ws_outside.specs.declared.contents.Which.TheVariants.{Left, Right}

abbrev pub area_word : Which → List ℕ
area_word Left = codes "left"
area_word Right = codes "right"
