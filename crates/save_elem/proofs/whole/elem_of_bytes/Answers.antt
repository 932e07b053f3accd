use Rattle.save_form.proofs.Wholes.{is_found, is_read, none_longer, is_first}
use Rattle.save_elem.specs.Elems.{elem}
use Rattle.save_elem.specs.Fits.{FitsElem}
use Rattle.save_elem.proofs.ElemLaws.{elem_lawful, elem_stops}
use Rattle.save_elem.proofs.whole.elem_of_bytes.Goals as goal

pub returns-clause-found : goal.returns-clause-found
returns-clause-found c = is_found FitsElem elem elem_lawful c.args.bytes.now c.read_whole.result c.read_whole.ensures

pub returns-clause-only : goal.returns-clause-only
returns-clause-only c = is_read FitsElem elem elem_lawful c.args.bytes.now c.read_whole.result c.read_whole.ensures

pub returns-clause-longer : goal.returns-clause-longer
returns-clause-longer c = none_longer FitsElem elem elem_lawful c.args.bytes.now c.read_whole.result c.read_whole.ensures

pub returns-clause-first : goal.returns-clause-first
returns-clause-first c = is_first FitsElem elem elem_lawful elem_stops c.args.bytes.now c.read_whole.result c.read_whole.ensures
