use Rattle.save_check.proofs.Lasting.{saved_where}
use Rattle.save_check.proofs.elements.are_saved.Goals as goal

pub returns : goal.returns
returns c = saved_where c.args.marks.now c.are_lasting.result c.get-any.ensures.form c.are_lasting.ensures
