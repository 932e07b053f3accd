use Rattle.std.proofs.Common.{◌≡◌, ◌+◌, ◌++◌, [], ◌∷◌, get_or, inl, inr, ap, subst}
use Rattle.std.specs.Prelude.{option_map}
use Rattle.std.proofs.lemmas.Result.{on_ok_weaker}
use Rattle.ws_outside.specs.Disk.{held, holding, written, Torn, Each, Came, InArea}
use Rattle.disk_area.specs.Area.{record_behind}
use Rattle.disk_area.specs.Writes.{KeepsFront, Follow, Becomes, Appended, Recording}
use Rattle.disk_area.proofs.Staging.{then_run, then_sure, wider_run, told_on}
use Rattle.disk_area.proofs.Recorded.{appended, opened, record_told}
use Rattle.disk_area.proofs.image.append.Goals as goal

pub returns-clause-any_moment : goal.returns-clause-any_moment
returns-clause-any_moment g c =
    let same : (c.record_bytes-head.result ++ c.args.body.now ++ 0 ∷ []) ≡ (record_behind c.args.body.now) = ap (λ l. l ++ c.args.body.now ++ 0 ∷ []) c.record_bytes-head.ensures in
    let laid = subst (λ bytes. Each (g.D.Disk.may_leave c.lay.new.disk) (Came (g.D.Disk.may_leave c.args.disk.now) (InArea c.args.area (Follow (c.args.gate + 1) bytes)))) same c.in_ok-lay.ensures.laid in
    let R = Recording c.args.gate (record_behind c.args.body.now) in
    let first = wider_run g.D.Disk.moment g.D.Disk.left_since g.D.Disk.may_leave c.args.area c.args.disk.now c.lay.new.disk (KeepsFront (c.args.gate + 1)) R (λ e d left kept. inl kept) c.lay.ensures.any_moment in
    then_run g.D.Disk.moment g.D.Disk.left_since g.D.Disk.may_leave c.args.area c.args.disk.now c.lay.new.disk c.set_byte.new.disk (Follow (c.args.gate + 1) (record_behind c.args.body.now)) (Torn c.args.gate 1) R first laid c.set_byte.ensures.any_moment
    (λ d m e left follow torn. inr (get_or (held c.args.area e) c.args.gate 0, appended c.args.gate (record_behind c.args.body.now) (held c.args.area d) (held c.args.area m) (held c.args.area e) follow torn))

pub returns-clause-done : goal.returns-clause-done
returns-clause-done g c =
    let same : (c.record_bytes-head.result ++ c.args.body.now ++ 0 ∷ []) ≡ (record_behind c.args.body.now) = ap (λ l. l ++ c.args.body.now ++ 0 ∷ []) c.record_bytes-head.ensures in
    let laid = subst (λ bytes. Each (g.D.Disk.may_leave c.lay.new.disk) (Came (g.D.Disk.may_leave c.args.disk.now) (InArea c.args.area (Follow (c.args.gate + 1) bytes)))) same c.in_ok-lay.ensures.laid in
    on_ok_weaker c.set_byte.result (λ set. then_sure g.D.Disk.moment g.D.Disk.left_since g.D.Disk.may_leave c.args.area c.args.disk.now _ _ (Follow (c.args.gate + 1) (record_behind c.args.body.now)) (Becomes (written c.args.gate (1 ∷ []))) (Appended c.args.gate 1 (record_behind c.args.body.now)) laid set
    (λ d m e left follow is. opened c.args.gate (record_behind c.args.body.now) (held c.args.area d) (held c.args.area m) (held c.args.area e) follow is)) c.set_byte.ensures.set

pub returns-clause-seen : goal.returns-clause-seen
returns-clause-seen g c =
    let same : (c.record_bytes-head.result ++ c.args.body.now ++ 0 ∷ []) ≡ (record_behind c.args.body.now) = ap (λ l. l ++ c.args.body.now ++ 0 ∷ []) c.record_bytes-head.ensures in
    let seen0 = g.D.Disk.seen c.args.disk.now in
    let laid : g.D.Disk.seen c.lay.new.disk ≡ option_map (λ both. holding c.args.area (written (c.args.gate + 1) (record_behind c.args.body.now) (held c.args.area both)) both) seen0 =
    subst (λ bytes. g.D.Disk.seen c.lay.new.disk ≡ option_map (λ both. holding c.args.area (written (c.args.gate + 1) bytes (held c.args.area both)) both) seen0) same c.in_ok-lay.ensures.seen in
    on_ok_weaker c.set_byte.result (λ seen. told_on c.args.area (written (c.args.gate + 1) (record_behind c.args.body.now)) (written c.args.gate (1 ∷ [])) (written c.args.gate (1 ∷ record_behind c.args.body.now)) _ _ _ laid seen
    (record_told c.args.area c.args.gate (record_behind c.args.body.now) seen0 c.requires.gate)) c.set_byte.ensures.seen
