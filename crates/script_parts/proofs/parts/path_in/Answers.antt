use Rattle.std.proofs.Common.{◌≡◌, true, false, subst, sym}
use Rattle.std.specs.Prelude.{IsUtf8}
use Rattle.script_parts.proofs.Paths.{utf8_path}
use Rattle.script_parts.proofs.parts.path_in.Goals as goal

pub returns-in_default : goal.returns-in_default
returns-in_default c = λ path h e.
    let utf8 : IsUtf8 c.args.word = subst IsUtf8 (sym e) (utf8_path path h) in
    let read : false ≡ true = c.in_default.ensures.variant.1 utf8 in cc
