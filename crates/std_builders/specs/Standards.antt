-- The meanings of the standard builders, by their names.
use Rattle.std.specs.Prelude.{ℕ, Bool, true, false, if◌then◌else◌, List, codes, Some, None, IfSome}
use Rattle.std.specs.Str.{bytes_eq}
use Rattle.builder_api.specs.Meanings.{Meanings, IsMeaning}
use Rattle.std_copy.specs.Copied.{copy}
use Rattle.std_copy.proofs.Laws.{copy_means}
use Rattle.std_concat.specs.Concat.{concat}
use Rattle.std_concat.proofs.Sound.{concat_sound}
use Rattle.std_expand.specs.Expand.{expand}
use Rattle.std_expand.proofs.Sound.{expand_sound}

abbrev pub standard : Meanings
standard name =
    if bytes_eq name (codes "copy") then Some copy
    else if bytes_eq name (codes "concat") then Some concat
    else if bytes_eq name (codes "expand") then Some expand
    else None

one_of : (a b c : Bool) → IfSome (if a then Some copy else if b then Some concat else if c then Some expand else None) IsMeaning
one_of true b c = copy_means
one_of false true c = concat_sound
one_of false false true = expand_sound
one_of false false false = tt

-- each is a meaning
pub standard_sound : (name : List ℕ) → IfSome (standard name) IsMeaning
standard_sound name = one_of (bytes_eq name (codes "copy")) (bytes_eq name (codes "concat")) (bytes_eq name (codes "expand"))
