-- What stays while the worker builds stays over several of its events.
use Rattle.std.proofs.Common.{◌≡◌, List, [], ◌∷◌, ◌++◌, refl, sym, ap, ◌∙◌, arith, append_assoc, append-nil, subst}
use Rattle.std.specs.List.{AllByRecursion}
use Rattle.builder_api.specs.Meanings.{Meanings}
use Rattle.builder_api.specs.Told.{Told}
use Rattle.core_event.specs.declared.entry.Entry.{Entry}
use Rattle.ws_core.specs.States.{Moment}
use Rattle.ws_core.specs.Sessions.{Session}
use Rattle.ws_core.specs.Histories.{replay}
use Rattle.build_history.specs.Calls.{calls, WereCalled}
use Rattle.build_history.specs.Events.{IsOwn, NoBuilds}
use Rattle.build_history.proofs.Calls.{called_append, called_none, calls_append, no_calls}
use Rattle.build_history.proofs.Handings.{answers_on, plain_answers}
use Rattle.build_history.proofs.Names.{replay_append}
use Rattle.build_history.proofs.Settling as settling
use Rattle.build_history.proofs.Settling.{plain_keeps}
use Rattle.build_host.specs.Hosts.{Goes, IsReady, Keeps, Serves, StayBuilders, reached}

keeps_itself : (s : Moment) → Keeps s s
keeps_itself s = record { zeroth = λ h. h; worker = λ h. h; single = λ h. h; job = refl; left = omega arith }

keeps_on : (s t u : Moment) → Keeps s t → Keeps t u → Keeps s u
keeps_on s t u p q =
    let first = p.left in
    let second = q.left in record {
      zeroth = λ h. q.zeroth (p.zeroth h);
      worker = λ h. q.worker (p.worker h);
      single = λ h. q.single (p.single h);
      job = q.job ∙ p.job;
      left = omega (arith, first, second);
    }

pub all_on : (xs ys : List Entry) → AllByRecursion (IsOwn 1) xs → AllByRecursion (IsOwn 1) ys → AllByRecursion (IsOwn 1) (xs ++ ys)
all_on [] ys h g = g
all_on (x ∷ xs) ys h g = (h.0, all_on xs ys h.1 g)

pub goes_itself : (x : Session) → Goes x x
goes_itself x = record { opened = refl; entries = []; history = sym (append-nil x.history); own = tt; keeps = keeps_itself x.state; names = refl }

pub goes_on : (x y z : Session) → Goes x y → Goes y z → Goes x z
goes_on x y z p q = record {
  opened = q.opened ∙ p.opened;
  entries = p.entries ++ q.entries;
  history = q.history ∙ ap (λ h. h ++ q.entries) p.history ∙ append_assoc x.history p.entries q.entries;
  own = all_on p.entries q.entries p.own q.own;
  keeps = keeps_on x.state y.state z.state p.keeps q.keeps;
  names = q.names ∙ p.names;
}

pub builders_stay : (ms : Meanings) (told : List Told) → StayBuilders ms told told
builders_stay ms told = record { names = refl; means = λ h. h }

pub builders_on : (ms : Meanings) (a b c : List Told) → StayBuilders ms a b → StayBuilders ms b c → StayBuilders ms a c
builders_on ms a b c p q = record { names = q.names ∙ p.names; means = λ h. q.means (p.means h) }

-- the worker is still ready
pub ready_on : (ms : Meanings) (x y : Session) (a b : List Told) → Goes x y → StayBuilders ms a b → IsReady ms x a → IsReady ms y b
ready_on ms x y a b goes stay h = record {
  alone = record { worker = goes.keeps.worker h.alone.worker; single = goes.keeps.single h.alone.single };
  named = goes.names ∙ h.named ∙ sym stay.names;
  means = stay.means h.means;
}

-- ---- a worker and its builders

-- the state that a session leads to that went on
went_on : (x y : Session) (l : List Entry) → y.opened ≡ x.opened → y.history ≡ x.history ++ l → reached y ≡ replay (reached x) l
went_on x y l o h = ap (λ s. replay s y.history) o ∙ ap (replay x.opened) h ∙ replay_append x.opened x.history l

pub serves_on : (ms : Meanings) (x y z : Session) (a b c : List Told) → Serves ms x y a b → Serves ms y z b c → Serves ms x z a c
serves_on ms x y z a b c p q =
    let on = went_on x y p.entries p.opened p.history in record {
      opened = q.opened ∙ p.opened;
      entries = p.entries ++ q.entries;
      history = q.history ∙ ap (λ h. h ++ q.entries) p.history ∙ append_assoc x.history p.entries q.entries;
      stays = builders_on ms a b c p.stays q.stays;
      called = subst (λ cs. WereCalled cs a c)
          (sym (calls_append (reached x) p.entries q.entries ∙ ap (λ s. calls (reached x) p.entries ++ calls s q.entries) (sym on)))
          (called_append (calls (reached x) p.entries) (calls (reached y) q.entries) a b c p.called q.called);
      answers = λ last. answers_on ms last (reached x) (reached y) p.entries q.entries a b c on p.stays.names (p.answers last) q.answers;
      keeps = λ sound. settling.keeps_on ms (reached x) (reached y) (reached z) p.entries q.entries on (p.keeps sound) (q.keeps (p.keeps sound).sound);
    }

-- where nothing is asked of the services for a build, no builder is called or fails, nothing is committed, and no build settles
pub serves_quietly : (ms : Meanings) (x y : Session) (told : List Told) (l : List Entry) → y.opened ≡ x.opened → y.history ≡ x.history ++ l → NoBuilds l → Serves ms x y told told
serves_quietly ms x y told l o h quiet = record {
  opened = o;
  entries = l;
  history = h;
  stays = builders_stay ms told;
  called = called_none (calls (reached x) l) told (no_calls (reached x) l quiet);
  answers = λ last. plain_answers ms last (reached x) l told quiet;
  keeps = plain_keeps ms (reached x) (reached y) l (went_on x y l o h) quiet;
}

pub serves_itself : (ms : Meanings) (x : Session) (told : List Told) → Serves ms x x told told
serves_itself ms x told = serves_quietly ms x x told [] refl (sym (append-nil x.history)) tt
