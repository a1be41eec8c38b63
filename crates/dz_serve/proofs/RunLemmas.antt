-- What came of the command.
use Rattle.std.proofs.Common.{◌≡◌, ◌⊎◌, inl, inr, ℕ, ◌<◌, Bool, true, false, List, [], ◌∷◌, length}
use Rattle.std.proofs.Common.{take, slice_get, Option, None, Some, Result, Ok, Err, ⊎_elim, refl, sym, ap, subst, ◌∙◌}
use Rattle.std.proofs.Common.{arith}
use Rattle.std.specs.Prelude.{IfSome, MatchBool, ◌≢◌, is_none, is_some, not}
use mathlib.Core.List.{IsPrefix}
use Rattle.dz_name.specs.Words.{Octets}
use Rattle.dz_io.specs.Counts.{HasRisen}
use Rattle.dz_io.specs.Device.{Tells}
use Rattle.dz_io.specs.declared.ports.Place.{Place}
use Rattle.dz_io.specs.Ports.{Row, Exchange, Accepts, Dials, IsFreshExchange, IsFreshAccepts, IsFreshDials, place}
use Rattle.dz_io.specs.declared.peer.Peer.{Peer}
use Rattle.dz_settings.specs.declared.config.CatalogSettings.{CatalogSettings}
use Rattle.dz_config.specs.declared.fault.ConfigFault.{ConfigFault}
use Rattle.dz_history.specs.declared.entry.Entry.{Entry}
use Rattle.dz_history.specs.declared.entry.Entry.TheVariants.{Setup}
use Rattle.dz_history.specs.Legal.{IsLegal}
use Rattle.dz_desk.specs.Seen.{Book, Viewed}
use Rattle.dz_fleet.specs.Core.{Core}
use Rattle.dz_provision.specs.Held.{Held, IsSaid}
use Rattle.dz_provision.specs.declared.provisioner.LogFault.{LogFault}
use Rattle.dz_query.proofs.GainLemmas.{tells_gained}
use Rattle.dz_serve.specs.Command.{bad_config, SaysBad, HasFault, IsIdle, IsServe}
use Rattle.dz_serve.specs.Ends.{is_write_fault}
use Rattle.dz_serve.specs.Rows.{Rows, rows, AreUnused, both_at, both_made, both_back, opened_at}
use Rattle.dz_serve.specs.Runs.{HasRun, IsListOf, IsRun}
use Rattle.dz_serve.specs.Runs as runs
use Rattle.dz_serve.specs.Workers.{IsSeated}
use Rattle.dz_serve.specs.declared.status.ServeEnd.{ServeEnd}
use Rattle.dz_serve.specs.declared.status.ServeEnd.TheVariants as ends
use Rattle.dz_serve.proofs.RowLemmas.{unused_none, unused_two}

-- ---- no worker was started
pub none_used : (r : Rows) → AreUnused r r
none_used r = record {
  datagrams = unused_none IsFreshExchange r.datagrams r.datagrams refl;
  acceptors = unused_none IsFreshAccepts r.acceptors r.acceptors refl;
  dialers = unused_none IsFreshDials r.dialers r.dialers refl;
}

pub both_used : (listen : Peer) (before after : Rows) (one two : Exchange) (three four : Accepts) (five six : Dials)
    → IsFreshExchange one → IsFreshExchange two → IsFreshAccepts three → IsFreshAccepts four → IsFreshDials five
    → IsFreshDials six
    → after.datagrams ≡ both_back one two (both_at listen before.datagrams)
    → after.acceptors ≡ both_back three four (both_at listen before.acceptors)
    → after.dialers ≡ both_back five six (both_made before.dialers)
    → AreUnused before after
both_used listen before after one two three four five six f1 f2 f3 f4 f5 f6 d a l = record {
  datagrams =
      unused_two IsFreshExchange (place listen 0) (place listen 1) one two before.datagrams after.datagrams f1 f2 d;
  acceptors =
      unused_two IsFreshAccepts (place listen 0) (place listen 1) three four before.acceptors after.acceptors f3 f4 a;
  dialers = unused_two IsFreshDials 0 1 five six before.dialers after.dialers f5 f6 l;
}

-- ---- a list that begins with a configuration
pub begins_at : (list later : List Entry) (e : Entry) → slice_get list 0 ≡ Some e → IsPrefix list later
    → slice_get later 0 ≡ Some e
begins_at [] later e is p = absurd (cc is)
begins_at (x ∷ list) later e is p = subst (λ l. slice_get l 0 ≡ Some e) p.1 is

-- what a reading has seen begins with the entry with which the list began
pub same_first : (old front later new : List Entry) (e : Entry) → IsPrefix old front → IsPrefix front later
    → IsPrefix new later → 0 < length new → slice_get old 0 ≡ Some e → slice_get new 0 ≡ Some e
same_first old front later [] e p q s some is = absurd (omega (arith, some))
same_first old front later (x ∷ new) e p q s some is =
    subst (λ l. slice_get l 0 ≡ Some e) (sym s.1) (begins_at front later e (begins_at old front e is p) q)

pub first_opened : (config : List CatalogSettings) (first : List Entry) → first ≡ Setup config ∷ []
    → slice_get first 0 ≡ Some (Setup config)
first_opened config first is = rw is refl

pub begun_of : (config : List CatalogSettings) (list : List Entry) → slice_get list 0 ≡ Some (Setup config) → list ≢ []
begun_of config list first empty =
    absurd (cc (subst (λ (l : List Entry). slice_get l 0 ≡ Some (Setup config)) empty first))

pub some_begun : (config : List CatalogSettings) (list : List Entry) → slice_get list 0 ≡ Some (Setup config)
    → 0 < length list
some_begun config [] first = absurd (cc first)
some_begun config (x ∷ list) first = omega arith

pub listed_as : (config : List CatalogSettings) (list other : List Entry) → other ≡ list → IsLegal list
    → slice_get list 0 ≡ Some (Setup config) → IsListOf config other
listed_as config list other same legal first = record { legal = rw same legal; begins = rw same first }

-- a line that is said leaves the core as it is
pub said_core : (h : Held) (line : Octets) (result : Result (Unit {0}) LogFault) (k : Held) → IsSaid h line result k
    → k.core ≡ h.core
unfolding IsSaid
said_core h line (Ok done) k said = said.core
said_core h line (Err fault) k said =
    ⊎_elim (λ stays. ap (λ (x : Held). x.core) stays.same) (λ breaks. breaks.core) said

pub same_begun : (c d : Core) (e : Entry) → d ≡ c → slice_get c.list 0 ≡ Some e → slice_get d.list 0 ≡ Some e
same_begun c d e same is = subst (λ (x : Core). slice_get x.list 0 ≡ Some e) (sym same) is

pub same_legal : (c d : Core) → d ≡ c → IsLegal c.list → IsLegal d.list
same_legal c d same legal = subst (λ (x : Core). IsLegal x.list) (sym same) legal

pub seated_on : (book : Book) (old new : Viewed) → new ≡ record old { list = new.list } → IsSeated book old
    → IsSeated book new
seated_on book old new same seated = record {
  rests = ap (λ (v : Viewed). v.is_out) same ∙ seated.rests;
  own = ap (λ (v : Viewed). v.book) same ∙ seated.own;
}

-- ---- a disk, or none
pub some_is : {T : Type 0} (o : Option T) → (o ≡ None → ⊥) → is_some o ≡ true
some_is None never = absurd (never refl)
some_is (Some x) never = refl

pub err_not_ok : {A E : Type 0} (e : E) (a : A) → Err e ≡ Ok a → ⊥
err_not_ok e a is = cc is

pub ok_same : {A E : Type 0} (a b : A) → ◌≡◌ {A = Result A E} (Ok a) (Ok b) → a ≡ b
ok_same a b is = cc is

-- what a test of a store says
pub dials_so : {T : Type 0} (store : Option T) (must : Bool) → is_some store ≡ not must → is_none store ≡ true
    → must ≡ true
dials_so None true test none = refl
dials_so None false test none = absurd (cc test)
dials_so (Some s) must test none = absurd (cc none)

-- a server that has dialed need not have
eased : (how : ServeEnd) (downstream : List Octets) (may_fail : Type 0) (may_give : ℕ → Bool) (lines : ℕ)
    (list : List Entry) (before after : Rows) → IsRun true how downstream may_fail may_give lines list before after
    → IsRun false how downstream may_fail may_give lines list before after
eased how downstream may_fail may_give lines list before after run = record {
  whole_one = run.whole_one;
  whole_two = run.whole_two;
  closed_one = run.closed_one;
  closed_two = run.closed_two;
  starved_one = run.starved_one;
  starved_two = run.starved_two;
  unheard_one = run.unheard_one;
  unheard_two = run.unheard_two;
  unheard_three = run.unheard_three;
  unheard_four = run.unheard_four;
  transfers_one = run.transfers_one;
  transfers_two = run.transfers_two;
  lines_one = run.lines_one;
  lines_two = run.lines_two;
  one = run.one;
  two = run.two;
  three = run.three;
  four = run.four;
  five = run.five;
  six = run.six;
  datagrams = run.datagrams;
  acceptors = run.acceptors;
  dialers = run.dialers;
  exchanged_one = run.exchanged_one;
  exchanged_two = run.exchanged_two;
  accepted_one = run.accepted_one;
  accepted_two = run.accepted_two;
  dialled_one = run.dialled_one;
  dialled_two = run.dialled_two;
  lines_are = run.lines_are;
  done = λ is. let d = run.done is in
      (d.0, d.1, d.2, d.3, d.4, d.5, d.6, d.7, d.8, d.9, d.10, d.11, λ must. d.12 refl);
  starved = run.starved;
}

-- a server ran that has to dial where it has no store
ran_by : {T S : Type 0} (disk : Option T) (store : Option S) (how : ServeEnd) (downstream : List Octets)
    (may_fail : Type 0) (may_give : ℕ → Bool) (lines : ℕ) (list : List Entry) (listen : Peer) (before after : Rows)
    → (disk ≡ None → store ≡ None) → IsRun (is_none store) how downstream may_fail may_give lines list
    (opened_at listen before) after
    → HasRun (is_some disk) how downstream may_fail may_give lines list listen before after
ran_by None None how downstream may_fail may_give lines list listen before after none run = runs.ran run
ran_by None (Some s) how downstream may_fail may_give lines list listen before after none run = absurd (cc (none refl))
ran_by (Some d) None how downstream may_fail may_give lines list listen before after none run =
    runs.ran (eased how downstream may_fail may_give lines list (opened_at listen before) after run)
ran_by (Some d) (Some s) how downstream may_fail may_give lines list listen before after none run = runs.ran run

pub ran_as : {T S : Type 0} (disk : Option T) (store : Option S) (how : ServeEnd) (downstream : List Octets)
    (may_fail : Type 0) (may_give : ℕ → Bool) (lines : ℕ) (list : List Entry) (listen : Peer) (before after : Rows)
    (x : Row Place Exchange) (y : Row Place Accepts) (z : Row ℕ Dials) → (disk ≡ None → store ≡ None)
    → x ≡ both_at listen before.datagrams → y ≡ both_at listen before.acceptors → z ≡ both_made before.dialers
    → IsRun (is_none store) how downstream may_fail may_give lines list (rows x y z) after
    → HasRun (is_some disk) how downstream may_fail may_give lines list listen before after
ran_as disk store how downstream may_fail may_give lines list listen before after x y z none d a l run =
    let one =
    subst (λ v. IsRun (is_none store) how downstream may_fail may_give lines list (rows v y z) after) d run in
    let two = subst (λ v. IsRun (is_none store) how downstream may_fail may_give lines list
    (rows (both_at listen before.datagrams) v z) after) a one in
    let three = subst (λ v. IsRun (is_none store) how downstream may_fail may_give lines list
    (rows (both_at listen before.datagrams) (both_at listen before.acceptors) v) after) l two in
    ran_by disk store how downstream may_fail may_give lines list listen before after none three

-- ---- the command
pub not_served : (keeps : Bool) (how : ServeEnd) (may_fail : Type 0) (may_give : ℕ → Bool) (may_stop : Bool)
    (input held : Option Octets) (list : List Entry) (r : Rows)
    → list ≡ [] → IsIdle how input held → how ≢ ends.Done
    → IsServe keeps how may_fail may_give may_stop input held list r r
not_served keeps how may_fail may_give may_stop input held list r empty idle undone = record {
  unserved = λ _. (idle, none_used r);
  served = λ some. absurd (some empty);
  done = λ is. absurd (undone is);
  bad = λ is. (empty, refl);
}

bad_idle : (how : ServeEnd) (fault : ConfigFault) (input first held : Option Octets) → HasFault input fault
    → IfSome first (λ text. text ≡ []) → SaysBad fault how first held → IsIdle how input held
bad_idle ends.BadInput fault input first held has none said =
    (fault, has, tells_gained (bad_config fault) first held none said)
bad_idle ends.WriteFault fault input first held has none said =
    (fault, has, (said.0, tells_gained (take said.0 (bad_config fault)) first held none said.2))
bad_idle ends.Done fault input first held has none said = absurd said
bad_idle ends.ReadFault fault input first held has none said = absurd said
bad_idle ends.PortFault fault input first held has none said = absurd said
bad_idle ends.NoMemory fault input first held has none said = absurd said

bad_undone : (how : ServeEnd) (fault : ConfigFault) (first held : Option Octets) → SaysBad fault how first held
    → how ≢ ends.Done
bad_undone ends.Done fault first held said is = absurd said
bad_undone ends.BadInput fault first held said is = cc is
bad_undone ends.WriteFault fault first held said is = cc is
bad_undone ends.ReadFault fault first held said is = cc is
bad_undone ends.PortFault fault first held said is = cc is
bad_undone ends.NoMemory fault first held said is = cc is

pub bad_served : (keeps : Bool) (how : ServeEnd) (may_fail : Type 0) (may_give : ℕ → Bool) (may_stop : Bool)
    (input first held : Option Octets) (fault : ConfigFault) (list : List Entry) (r : Rows)
    → list ≡ [] → HasFault input fault → IfSome first (λ text. text ≡ []) → SaysBad fault how first held
    → IsServe keeps how may_fail may_give may_stop input held list r r
bad_served keeps how may_fail may_give may_stop input first held fault list r empty has none said =
    not_served keeps how may_fail may_give may_stop input held list r empty
    (bad_idle how fault input first held has none said) (bad_undone how fault first held said)

never_risen : HasRisen 0 0 → ⊥
never_risen (inl h) = omega (arith, h)
never_risen (inr h) = omega (arith, h)

pub idle_of : (how : ServeEnd) (input held : Option Octets) (count : ℕ) → how ≢ ends.BadInput → Tells [] held
    → count ≡ 0 → MatchBool (is_write_fault how) (HasRisen 0 count) (count ≡ 0) → IsIdle how input held
idle_of ends.BadInput input held count good none zero write = absurd (good refl)
idle_of ends.WriteFault input held count good none zero write = absurd (never_risen (rw zero at write))
idle_of ends.Done input held count good none zero write = none
idle_of ends.ReadFault input held count good none zero write = none
idle_of ends.PortFault input held count good none zero write = none
idle_of ends.NoMemory input held count good none zero write = none
