use Rattle.std.proofs.Common.{sym, ◌∙◌, subst}
use Rattle.std_kit.specs.Placed.{AreMade}
use Rattle.std_kit.proofs.Placing.{inserted_made}
use Rattle.std_kit.proofs.made_files.MadeFiles.place.Goals as goal

pub invariant_of-self-2 : goal.invariant_of-self-2
invariant_of-self-2 c =
    subst AreMade (sym c.in_ok-put.ensures.ok)
    (inserted_made c.self.inside.files c.self.invariant c.args.path c.args.bytes (sym c.is_free.ensures ∙ c.if-not-is_free.false))
