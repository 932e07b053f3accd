use Rattle.std.proofs.Common.{◌≡◌, ◌∙◌, take, drop, Some, ap}
use Rattle.std.proofs.lemmas.List.{take_rest}
use Rattle.ws_outside.proofs.Fronts.{front_then_rest}
use Rattle.ws_outside.proofs.mem_source.MemSourceSource.read.Goals as goal

pub returns-clause-taken : goal.returns-clause-taken
returns-clause-taken c =
    let s = c.self.inside in
    let n = c.fill-count.result in
    let copied : take n c.fill-count.new.buf ≡ take n (drop s.at s.bytes.items) =
    c.fill-count.ensures.front ∙ ap (take n) (take_rest c.deref-2.result.now s.at) ∙ ap (λ l. take n (drop s.at l)) c.deref-2.ensures.value in
    rw (← c.self.view_is) (ap (λ l. Some l) (front_then_rest s.bytes.items c.fill-count.new.buf s.at n copied))
