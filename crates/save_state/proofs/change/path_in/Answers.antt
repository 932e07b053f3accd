use Rattle.std.proofs.Common.{◌≡◌, sym, subst, List, ℕ, Some}
use Rattle.std.specs.Prelude.{IsUtf8}
use Rattle.res_path.specs.declared.error.PathError.TheVariants.{TooLong, TooDeep, BadSegment}
use Rattle.save_state.specs.Paths.{path_of}
use Rattle.save_state.proofs.PathForm.{no_utf8, refused, parsed}
use Rattle.save_state.proofs.change.path_in.Goals as goal

pub returns-in_default : goal.returns-in_default
returns-in_default c = no_utf8 c.args.bytes.now c.in_default.ensures.cases.0

pub returns-in-Ok-parse : goal.returns-in-Ok-parse
returns-in-Ok-parse c =
    let same = c.in-Ok.ensures.cases.0 in
    let utf8 : IsUtf8 c.in-Ok.text.now = subst IsUtf8 (sym same) c.in-Ok.ensures.cases.1 in
    let found : Some c.in-Ok-parse.path ≡ path_of c.in-Ok.text.now = parsed c.in-Ok.text.now c.in-Ok-parse.path c.parse.result c.in-Ok-parse.is utf8 c.parse.ensures.fault c.parse.ensures.all in
    subst (λ (bytes : List ℕ). Some c.in-Ok-parse.path ≡ path_of bytes) same found

pub returns-in-Err-TooLong : goal.returns-in-Err-TooLong
returns-in-Err-TooLong c = refused c.in-Ok.text.now c.args.bytes.now c.in-Err-TooLong.field-0 TooLong c.in-Ok.ensures.cases.0 c.in-Err-TooLong.field-0-is (λ e. cc) c.in-Err-TooLong.ensures.only

pub returns-in-Err-TooDeep : goal.returns-in-Err-TooDeep
returns-in-Err-TooDeep c = refused c.in-Ok.text.now c.args.bytes.now c.in-Err-TooDeep.field-0 TooDeep c.in-Ok.ensures.cases.0 c.in-Err-TooDeep.field-0-is (λ e. cc) c.in-Err-TooDeep.ensures.only

pub returns-in-Err-BadSegment : goal.returns-in-Err-BadSegment
returns-in-Err-BadSegment c = refused c.in-Ok.text.now c.args.bytes.now c.in-Err-BadSegment.field-0 (BadSegment c.in-Err-BadSegment.field-0-0) c.in-Ok.ensures.cases.0 c.in-Err-BadSegment.field-0-is (λ e. cc) c.in-Err-BadSegment.ensures.only
