use Rattle.std_expand.proofs.Finding.{one_put}
use Rattle.std_expand.proofs.named.Named.put.Goals as goal

pub returns : goal.returns
returns c = one_put c.args.self.now.files.entries c.insert.new.self.entries c.args.name c.args.bytes c.in_ok-insert.ensures.updates.0
