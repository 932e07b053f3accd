use Rattle.res_path.proofs.Built.{parent_kept}
use Rattle.res_path.proofs.path.Path.kept_of_parent.Goals as goal

pub returns-in-Some-clause-bytes : goal.returns-in-Some-clause-bytes
returns-in-Some-clause-bytes c =
    (parent_kept c.args.self.now c.kept-kept.result.now c.split_at.result.0.now c.in-Some.at c.kept-kept.ensures.form c.kept-kept.ensures.bytes
    c.in-Some.ensures.bound c.in-Some.ensures.slash c.in-Some.ensures.last c.split_at.ensures.front).0

pub returns-in-Some-clause-form : goal.returns-in-Some-clause-form
returns-in-Some-clause-form c =
    (parent_kept c.args.self.now c.kept-kept.result.now c.split_at.result.0.now c.in-Some.at c.kept-kept.ensures.form c.kept-kept.ensures.bytes
    c.in-Some.ensures.bound c.in-Some.ensures.slash c.in-Some.ensures.last c.split_at.ensures.front).1
