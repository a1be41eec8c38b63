-- One more link of an acceptor.
use Rattle.std.proofs.Common.{◌≡◌, inl, ℕ, Bool, true, false, ◌||◌, List, [], ◌∷◌, ◌++◌, length, take, drop, Option}
use Rattle.std.proofs.Common.{None, Some, refl, sym, ap, subst, ◌∙◌, arith, length-append}
use Rattle.std.specs.Prelude.{IsSome, IfSome}
use Rattle.std.specs.List.{flat_map, AllByRecursion}
use Rattle.std.proofs.lemmas.Grind.{flat_map-append}
use Rattle.std.proofs.lemmas.List.Recursion.{or_push}
use Rattle.std.proofs.lemmas.List.{append-nil, map-append, take-append-drop}
use mathlib.Core.List.{IsPrefix}
use Rattle.dz_name.specs.Words.{Octets}
use Rattle.dz_io.specs.Counts.{HasRisenBy}
use Rattle.dz_io.specs.Device.{Gains, GainsPrefix, Tells}
use Rattle.dz_io.specs.Links.{dialled}
use Rattle.dz_io.specs.declared.peer.Peer.{Peer}
use Rattle.dz_message.specs.Frame.{frame, stream}
use Rattle.dz_history.specs.declared.entry.Entry.{Entry}
use Rattle.dz_query.specs.Served.{Served, requests, moments, owed, framed, AreInTurn}
use Rattle.dz_query.specs.Stream.{Flow, flow, requests_in, AreRead, IsStream, EndsBy}
use Rattle.dz_query.specs.Links.{Visit, links_of, all_served, has_starved, some_starved, IsVisit, LinksTold, AreVisits}
use Rattle.dz_query.specs.inner.Sending.{owed_by}
use Rattle.dz_query.specs.declared.stream.StreamEnd.{StreamEnd}
use Rattle.dz_query.specs.declared.stream.StreamEnd.TheVariants.{Ended, Failed, OutOfMemory}
use Rattle.dz_query.proofs.GainLemmas.{prefix_of_all, prefix_of_first, gains_none, gains_more, tells_gained}
use Rattle.dz_query.proofs.GainLemmas.{still_none, still_more, rises_more}
use Rattle.dz_query.proofs.TurnLemmas.{turn_join, turn_later, turn_front, turn_back, turn_excused, sent_later}

pub none_yet : (downstream : List Octets) (may_fail : Type 0) (may_give : ℕ → Bool) (list : List Entry) (l : LinksTold)
    → AreVisits false downstream may_fail may_give (length list) list l l
none_yet downstream may_fail may_give list l = record {
  visits = [];
  links = gains_none l.links;
  each = tt;
  turns = omega arith;
  given = still_none l.moments;
  sights = inl (omega arith);
  starving = refl;
}

-- ---- a list that grew
visit_later : (downstream : List Octets) (may_fail : Type 0) (may_give : ℕ → Bool) (from : ℕ) (list later : List Entry)
    (visit : Visit) → IsPrefix list later → AreInTurn may_fail may_give true from list visit.served
    → IsVisit downstream list visit → IsVisit downstream later visit
visit_later downstream may_fail may_give from list later visit p turns is =
    let same : framed downstream later visit.served ≡ framed downstream list visit.served =
    ap stream (sent_later may_fail may_give true
    (λ list s. owed_by downstream list s.request s.moment s.fate) from list later visit.served p turns) in
    record { read = is.read; written = rw same is.written; ends = is.ends }

each_later : (downstream : List Octets) (may_fail : Type 0) (may_give : ℕ → Bool) (from : ℕ) (list later : List Entry)
    (visits : List Visit) → IsPrefix list later → AreInTurn may_fail may_give true from list (all_served visits)
    → AllByRecursion (IsVisit downstream list) visits → AllByRecursion (IsVisit downstream later) visits
each_later downstream may_fail may_give from list later [] p turns each = tt
each_later downstream may_fail may_give from list later (v ∷ visits) p turns each = (
  visit_later downstream may_fail may_give from list later v p
      (turn_front may_fail may_give true from list v.served (all_served visits) turns) each.0,
  each_later downstream may_fail may_give from list later visits p
      (turn_back may_fail may_give true from list v.served (all_served visits) turns) each.1,
)

each_more : (downstream : List Octets) (list : List Entry) (visits : List Visit) (v : Visit)
    → AllByRecursion (IsVisit downstream list) visits → IsVisit downstream list v
    → AllByRecursion (IsVisit downstream list) (visits ++ v ∷ [])
each_more downstream list [] v each is = (is, tt)
each_more downstream list (x ∷ visits) v each is = (each.0, each_more downstream list visits v each.1 is)

served_more : (visits : List Visit) (v : Visit) → all_served (visits ++ v ∷ []) ≡ all_served visits ++ v.served
served_more visits v = flat_map-append (λ (v : Visit). v.served) visits (v ∷ [])
    ∙ ap (λ served. all_served visits ++ served) (append-nil v.served)

some_more : (visits : List Visit) (v : Visit)
    → some_starved (visits ++ v ∷ []) ≡ (some_starved visits || has_starved v.ending)
some_more visits v = or_push some_starved (λ (v : Visit). has_starved v.ending) refl (λ _ _. refl) visits v

starved_more : (starved : Bool) (visits : List Visit) (v : Visit) → starved ≡ some_starved visits
    → (starved || has_starved v.ending) ≡ some_starved (visits ++ v ∷ [])
starved_more starved visits v is = ap (λ some. some || has_starved v.ending) is ∙ sym (some_more visits v)

-- ---- one link more
joins : (starved : Bool) (downstream : List Octets) (may_fail : Type 0) (may_give : ℕ → Bool) (from : ℕ)
    (list later : List Entry) (before middle now : LinksTold) (visit : Visit) → IsPrefix list later
    → IsVisit downstream later visit
    → Gains (visit.link ∷ []) middle.links now.links
    → AreInTurn may_fail may_give true (length list) later visit.served
    → (IsSome now.moments → Gains (moments visit.served) middle.moments now.moments)
    → HasRisenBy (length visit.served) middle.sights now.sights
    → AreVisits starved downstream may_fail may_give from list before middle
    → AreVisits (starved || has_starved visit.ending) downstream may_fail may_give from later before now
joins starved downstream may_fail may_give from list later before middle now visit p is link turns given sights was =
    let all = served_more was.visits visit in
    record {
      visits = was.visits ++ visit ∷ [];
      links = rw (map-append (λ (v : Visit). v.link) was.visits (visit ∷ []))
          (gains_more (links_of was.visits) (visit.link ∷ []) before.links middle.links now.links was.links link);
      each = each_more downstream later was.visits visit
          (each_later downstream may_fail may_give from list later was.visits p was.turns was.each) is;
      turns = rw all
          (turn_join may_fail may_give true from list later (all_served was.visits) visit.served p was.turns turns);
      given = rw (all, map-append (λ (s : Served). s.moment) (all_served was.visits) visit.served)
          (still_more (moments (all_served was.visits))
          (moments visit.served) before.moments middle.moments now.moments was.given given);
      sights =
          rw (all, length-append (all_served was.visits) visit.served) (rises_more (length (all_served was.visits))
          (length visit.served) before.sights middle.sights now.sights was.sights sights);
      starving = starved_more starved was.visits visit was.starving;
    }

-- what is told of a link that was fresh
told_then : {A : Type 0} (P : A → Type 0) (what : A) (told : Option A) → Tells what told → P what → IfSome told P
told_then P what None tells p = tt
told_then P what (Some held) tells p = subst P (sym tells) p

read_told : (peer : Peer) (served : List Served) (octets : Octets) (before now : Option Octets)
    → Tells [] before → Gains octets before now → requests served ≡ requests_in peer octets
    → IfSome now (λ octets. requests served ≡ requests_in peer octets)
read_told peer served octets before now none gained are = told_then
    (λ octets. requests served ≡ requests_in peer octets) octets now (tells_gained octets before now none gained) are

part_told : (octets : Octets) (before now : Option Octets) → Tells [] before → GainsPrefix octets before now
    → IfSome now (λ written. IsPrefix written octets)
part_told octets before now none part =
    told_then (λ written. IsPrefix written octets) (take part.0 octets) now
    (tells_gained (take part.0 octets) before now none part.2) (drop part.0 octets, take-append-drop part.0 octets)

-- where memory ran out, the replies that were written are a beginning of all of them
starved_part : (downstream : List Octets) (list : List Entry) (served : List Served)
    (last : Served) (before now : Option Octets) → Gains (framed downstream list served) before now
    → GainsPrefix (framed downstream list (served ++ last ∷ [])) before now
starved_part downstream list served last before now gained =
    let all : framed downstream list (served ++ last ∷ [])
    ≡ framed downstream list served ++ stream (owed downstream list last ++ []) =
    ap stream (flat_map-append (owed downstream list) served (last ∷ []))
    ∙ flat_map-append frame (flat_map (owed downstream list) served) (owed downstream list last ++ []) in
    rw all (prefix_of_first (framed downstream list served) (stream (owed downstream list last ++ [])) before now
    (prefix_of_all (framed downstream list served) before now gained))

pub goes_on : (ending : StreamEnd) (starved : Bool) (downstream : List Octets) (may_fail : Type 0)
    (may_give : ℕ → Bool) (from : ℕ) (list later : List Entry) (before middle now : LinksTold) (peer : Peer)
    (read0 read written0 written left : Option Octets) (faults : ℕ)
    → IsPrefix list later → Tells [] read0 → Tells [] written0
    → Gains (dialled peer read left written faults ∷ []) middle.links now.links
    → IsStream ending downstream may_fail may_give (length list) later peer
    (flow read0 written0 middle.sights middle.moments) (flow read written now.sights now.moments)
    → EndsBy ending left 0 faults
    → AreVisits starved downstream may_fail may_give from list before middle
    → AreVisits (starved || has_starved ending) downstream may_fail may_give from later before now
goes_on Ended starved downstream may_fail may_give from list later before middle now peer read0 read written0 written
    left faults p unread unwritten link stream ends was =
    let h = stream.asked in
    let visit : Visit =
    record { link = dialled peer read left written faults; ending = Ended; served = stream.served } in
    let is : IsVisit downstream later visit = record {
      read = read_told peer (stream.served) h.octets read0 read unread h.read h.are;
      written = tells_gained (framed downstream later stream.served) written0 written unwritten stream.written;
      ends = ends;
    } in
    joins starved downstream may_fail may_give from list later before middle now visit p is link h.turns h.given
    h.sights was
goes_on Failed starved downstream may_fail may_give from list later before middle now peer read0 read written0 written
    left faults p unread unwritten link stream ends was =
    let h = stream.asked in
    let visit : Visit =
    record { link = dialled peer read left written faults; ending = Failed; served = stream.served } in
    let is : IsVisit downstream later visit = record {
      read = read_told peer (stream.served) h.octets read0 read unread h.read h.are;
      written = part_told (framed downstream later stream.served) written0 written unwritten stream.written;
      ends = ends;
    } in
    joins starved downstream may_fail may_give from list later before middle now visit p is link h.turns h.given
    h.sights was
goes_on OutOfMemory starved downstream may_fail may_give from list later before middle now peer read0 read written0
    written left faults p unread unwritten link stream ends was =
    let h = stream.asked in
    let visit : Visit = record {
      link = dialled peer read left written faults;
      ending = OutOfMemory;
      served = stream.served ++ stream.last ∷ [];
    } in
    let is : IsVisit downstream later visit = record {
      read = read_told peer (stream.served ++ stream.last ∷ []) h.octets read0 read unread h.read h.are;
      written = part_told (framed downstream later (stream.served ++ stream.last ∷ [])) written0 written unwritten
          (starved_part downstream later stream.served stream.last written0 written stream.written);
      ends = ends;
    } in
    joins starved downstream may_fail may_give from list later before middle now visit p is link h.turns h.given
    h.sights was

-- what is owed by the list that was seen is owed by a later one
pub visits_later : (starved : Bool) (downstream : List Octets) (may_fail : Type 0)
    (may_give : ℕ → Bool) (from : ℕ) (list later : List Entry) (before now : LinksTold)
    → IsPrefix list later → AreVisits starved downstream may_fail may_give from list before now
    → AreVisits starved downstream may_fail may_give from later before now
visits_later starved downstream may_fail may_give from list later before now p is = record {
  visits = is.visits;
  links = is.links;
  each = each_later downstream may_fail may_give from list later is.visits p is.turns is.each;
  turns = turn_later may_fail may_give true from list later (all_served is.visits) p is.turns;
  given = is.given;
  sights = is.sights;
  starving = is.starving;
}

-- what is excused by less is excused by more
pub visits_excused : (a b : Type 0) (starved : Bool) (downstream : List Octets)
    (may_give : ℕ → Bool) (from : ℕ) (list : List Entry) (before now : LinksTold)
    → (a → b) → AreVisits starved downstream a may_give from list before now
    → AreVisits starved downstream b may_give from list before now
visits_excused a b starved downstream may_give from list before now more was = record {
  visits = was.visits;
  links = was.links;
  each = was.each;
  turns = turn_excused a b may_give true from list (all_served was.visits) more was.turns;
  given = was.given;
  sights = was.sights;
  starving = was.starving;
}

read_excused : (a b : Type 0) (may_give : ℕ → Bool) (from : ℕ) (list : List Entry) (peer : Peer)
    (before now : Flow) (served : List Served) → (a → b) → AreRead a may_give from list peer before now served
    → AreRead b may_give from list peer before now served
read_excused a b may_give from list peer before now served more was = record {
  octets = was.octets;
  read = was.read;
  are = was.are;
  turns = turn_excused a b may_give true from list served more was.turns;
  given = was.given;
  sights = was.sights;
}

pub stream_excused : (ending : StreamEnd) (a b : Type 0) (downstream : List Octets)
    (may_give : ℕ → Bool) (from : ℕ) (list : List Entry) (peer : Peer) (before now : Flow)
    → (a → b) → IsStream ending downstream a may_give from list peer before now
    → IsStream ending downstream b may_give from list peer before now
stream_excused Ended a b downstream may_give from list peer before now more was =
    record {
      served = was.served;
      asked = read_excused a b may_give from list peer before now was.served more was.asked;
      written = was.written;
    }
stream_excused Failed a b downstream may_give from list peer before now more was =
    record {
      served = was.served;
      asked = read_excused a b may_give from list peer before now was.served more was.asked;
      written = was.written;
    }
stream_excused OutOfMemory a b downstream may_give from list peer before now more was = record {
  served = was.served;
  last = was.last;
  asked = read_excused a b may_give from list peer before now (was.served ++ was.last ∷ []) more was.asked;
  zone = was.zone;
  written = was.written;
}
