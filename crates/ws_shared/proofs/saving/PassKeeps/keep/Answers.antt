use Rattle.std.proofs.Common.{refl}
use Rattle.ws_shared.proofs.saving.PassKeeps.keep.Goals as goal

pub returns-clause-kept : goal.returns-clause-kept
returns-clause-kept g c =
    let t = c.turn-answer.ensures.took in record {
      found = t.found;
      added = t.added;
      begins = t.begins;
      own_found = t.own_found;
      legal_found = t.legal_found;
      did_it = t.did_it c.args.states refl;
      number = t.number;
      seen = t.seen;
      mine = t.mine;
      lost = t.lost;
      legal_seen = t.legal_seen;
      faithful = t.faithful;
    }
