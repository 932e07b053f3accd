use Rattle.std.proofs.Common.{arith}
use Rattle.ws_top.proofs.Taken.{reads_more, short_more, long_more}
use Rattle.ws_top.proofs.reading.read_all.Goals as goal

pub returns-in-Err-extend_from_slice-clause-some : goal.returns-in-Err-extend_from_slice-clause-some
returns-in-Err-extend_from_slice-clause-some g c = reads_more (g.S.Source.left c.args.source.now) (g.S.Source.left c.loop-piece.source) (g.S.Source.left c.read_piece.new.source)
    (g.S.Source.reads c.args.source.now) (g.S.Source.reads c.loop-piece.source) (g.S.Source.reads c.read_piece.new.source)
    c.loop-piece.bytes.items c.in-Ok.piece.items
    c.loop-piece.invariant.taken c.in-Ok.ensures.taken (omega (arith, c.len.ensures, c.room_left-room.ensures.within, c.in-Ok.ensures.short)) c.loop-piece.invariant.few c.read_piece.ensures.counts

pub returns-then-len-gt-LONGEST-clause-some : goal.returns-then-len-gt-LONGEST-clause-some
returns-then-len-gt-LONGEST-clause-some g c = reads_more (g.S.Source.left c.args.source.now) (g.S.Source.left c.loop-piece.source) (g.S.Source.left c.read_piece.new.source)
    (g.S.Source.reads c.args.source.now) (g.S.Source.reads c.loop-piece.source) (g.S.Source.reads c.read_piece.new.source)
    c.loop-piece.bytes.items c.in-Ok.piece.items
    c.loop-piece.invariant.taken c.in-Ok.ensures.taken (omega (arith, c.len.ensures, c.room_left-room.ensures.within, c.in-Ok.ensures.short)) c.loop-piece.invariant.few c.read_piece.ensures.counts

pub returns-then-len-gt-LONGEST-clause-much : goal.returns-then-len-gt-LONGEST-clause-much
returns-then-len-gt-LONGEST-clause-much g c = long_more (g.S.Source.left c.args.source.now) (g.S.Source.left c.loop-piece.source) (g.S.Source.left c.read_piece.new.source)
    c.loop-piece.bytes.items c.in-Ok.piece.items
    c.loop-piece.invariant.taken c.in-Ok.ensures.taken (omega (arith, c.len.ensures, c.room_left-room.ensures.within, c.in-Ok.ensures.short, c.len-in-loop-piece.ensures, c.len-in-loop-piece-2.ensures, c.if-len-gt-LONGEST.true))

pub returns-in-Err-extend_from_slice-clause-much : goal.returns-in-Err-extend_from_slice-clause-much
returns-in-Err-extend_from_slice-clause-much g c = short_more (g.S.Source.left c.args.source.now) (g.S.Source.left c.loop-piece.source) (g.S.Source.left c.read_piece.new.source)
    c.loop-piece.bytes.items c.in-Ok.piece.items
    c.loop-piece.invariant.taken c.in-Ok.ensures.taken (omega (arith, c.len-in-loop-piece.ensures, c.len-in-loop-piece-2.ensures, c.if-len-gt-LONGEST.false))
