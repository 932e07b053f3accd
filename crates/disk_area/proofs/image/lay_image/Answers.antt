use Rattle.std.proofs.Common.{◌≡◌, ◌+◌, ◌++◌, [], ◌∷◌, length, take, sym, ap, subst, arith}
use Rattle.std.specs.Prelude.{IfSome}
use Rattle.std.proofs.lemmas.Result.{on_ok_weaker}
use Rattle.ws_outside.specs.Disk.{held, written, Cut, Each, Came, InArea}
use Rattle.disk_area.specs.Area.{behind_gate}
use Rattle.disk_area.specs.Writes.{IsShut, KeepsFront, Follow, Staged, Becomes}
use Rattle.disk_area.proofs.Lay.{told_size}
use Rattle.disk_area.proofs.Staging.{length-behind, shut_front, shut_cut, shut_told, staged_there, told_on, laid_told, wider_run, then_run, then_sure}
use Rattle.disk_area.proofs.image.lay_image.Goals as goal

pub returns-in_err-lay-clause-any_moment : goal.returns-in_err-lay-clause-any_moment
returns-in_err-lay-clause-any_moment g c =
    let first = wider_run g.D.Disk.moment g.D.Disk.left_since g.D.Disk.may_leave c.args.area c.args.disk.now c.lay.new.disk (KeepsFront 1) (λ _ s. IsShut s) (λ e d left kept. shut_front (held c.args.area d) (held c.args.area e) kept.front (c.requires.shut d left)) c.lay.ensures.any_moment in
    first

pub returns-clause-any_moment : goal.returns-clause-any_moment
returns-clause-any_moment g c =
    let first = wider_run g.D.Disk.moment g.D.Disk.left_since g.D.Disk.may_leave c.args.area c.args.disk.now c.lay.new.disk (KeepsFront 1) (λ _ s. IsShut s) (λ e d left kept. shut_front (held c.args.area d) (held c.args.area e) kept.front (c.requires.shut d left)) c.lay.ensures.any_moment in
    then_run g.D.Disk.moment g.D.Disk.left_since g.D.Disk.may_leave c.args.area c.args.disk.now c.lay.new.disk c.trim.new.disk (λ _ s. IsShut s) (Cut (58 + length c.args.image.now)) (λ _ s. IsShut s) first first.now c.trim.ensures.any_moment (λ d m e left shut cut. shut_cut (58 + length c.args.image.now) (held c.args.area m) (held c.args.area e) (omega arith) cut shut)

pub trim-requires : goal.trim-requires
trim-requires g c =
    let same : (c.header_bytes-head.result ++ c.args.image.now ++ 0 ∷ []) ≡ (behind_gate c.args.number c.args.image.now) = ap (λ l. l ++ c.args.image.now ++ 0 ∷ []) c.header_bytes-head.ensures in
    let size : 58 + length c.args.image.now ≡ 1 + length (c.header_bytes-head.result ++ c.args.image.now ++ 0 ∷ []) = omega (arith, ap length same, length-behind c.args.number c.args.image.now) in
    told_size c.args.area 1 (58 + length c.args.image.now) (c.header_bytes-head.result ++ c.args.image.now ++ 0 ∷ []) _ _ size (shut_told c.args.area (g.D.Disk.may_leave c.args.disk.now) (g.D.Disk.seen c.args.disk.now) (g.met.D.Disk.reads_itself c.args.disk.now) c.requires.shut) c.in_ok-lay.ensures.seen

pub returns-clause-laid : goal.returns-clause-laid
returns-clause-laid g c =
    let same : (c.header_bytes-head.result ++ c.args.image.now ++ 0 ∷ []) ≡ (behind_gate c.args.number c.args.image.now) = ap (λ l. l ++ c.args.image.now ++ 0 ∷ []) c.header_bytes-head.ensures in
    let size : 58 + length c.args.image.now ≡ 1 + length (behind_gate c.args.number c.args.image.now) = omega (arith, length-behind c.args.number c.args.image.now) in
    on_ok_weaker c.trim.result (λ trimmed. then_sure g.D.Disk.moment g.D.Disk.left_since g.D.Disk.may_leave c.args.area c.args.disk.now _ _ (Follow 1 (behind_gate c.args.number c.args.image.now)) (Becomes (take (58 + length c.args.image.now))) (Staged (behind_gate c.args.number c.args.image.now)) (subst (λ bytes. Each (g.D.Disk.may_leave c.lay.new.disk) (Came (g.D.Disk.may_leave c.args.disk.now) (InArea c.args.area (Follow 1 bytes)))) same c.in_ok-lay.ensures.laid) trimmed (λ e m i left follow cut. staged_there (58 + length c.args.image.now) (behind_gate c.args.number c.args.image.now) (held c.args.area e) (held c.args.area m) (held c.args.area i) size (c.requires.shut e left) follow cut)) c.trim.ensures.trimmed

pub returns-clause-seen : goal.returns-clause-seen
returns-clause-seen g c =
    let same : (c.header_bytes-head.result ++ c.args.image.now ++ 0 ∷ []) ≡ (behind_gate c.args.number c.args.image.now) = ap (λ l. l ++ c.args.image.now ++ 0 ∷ []) c.header_bytes-head.ensures in
    let size : 58 + length c.args.image.now ≡ 1 + length (behind_gate c.args.number c.args.image.now) = omega (arith, length-behind c.args.number c.args.image.now) in
    on_ok_weaker c.trim.result (λ seen. told_on c.args.area (written 1 (c.header_bytes-head.result ++ c.args.image.now ++ 0 ∷ [])) (take (58 + length c.args.image.now)) (λ s. take 1 s ++ (behind_gate c.args.number c.args.image.now)) _ _ _ c.in_ok-lay.ensures.seen seen (subst (λ bytes. IfSome (g.D.Disk.seen c.args.disk.now) (λ both. take (58 + length c.args.image.now) (written 1 bytes (held c.args.area both)) ≡ take 1 (held c.args.area both) ++ (behind_gate c.args.number c.args.image.now))) (sym same) (laid_told c.args.area (58 + length c.args.image.now) (behind_gate c.args.number c.args.image.now) (g.D.Disk.seen c.args.disk.now) size (shut_told c.args.area (g.D.Disk.may_leave c.args.disk.now) (g.D.Disk.seen c.args.disk.now) (g.met.D.Disk.reads_itself c.args.disk.now) c.requires.shut)))) c.trim.ensures.seen

pub lay-requires-clause-fits : goal.lay-requires-clause-fits
lay-requires-clause-fits g c = (shut_told c.args.area (g.D.Disk.may_leave c.args.disk.now) (g.D.Disk.seen c.args.disk.now) (g.met.D.Disk.reads_itself c.args.disk.now) c.requires.shut)
