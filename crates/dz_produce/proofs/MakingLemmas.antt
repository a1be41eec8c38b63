-- Catalogs that are being made: their faults by those of nodes and of changes.
use Rattle.std.proofs.Common.{◌≡◌, ℕ, ◌+◌, ◌<◌, ◌≤◌, Bool, true, false, List, [], ◌∷◌, ◌++◌, length, take, get_or}
use Rattle.std.proofs.Common.{refl, sym, ◌∙◌, ap, arith, append_assoc, Some, None, Option, Ok, Err, Result}
use Rattle.std.specs.Prelude.{IfOk, OnErr, is_some, not, nat_lt, ◌==◌, ◌&&◌, ◌||◌, if◌then◌else◌}
use Rattle.std.specs.List.{list_any}
use Rattle.std.specs.Option.{ForSome}
use Rattle.std.proofs.lemmas.Bool.Decides.{nat_tests}
use Rattle.std.proofs.lemmas.List.{take_more}
use Rattle.std.proofs.lemmas.List.Sums.{sum_by-append, sum_by_push}
use Rattle.dz_xfr.specs.Apex.{held_serial}
use Rattle.dz_serial.specs.Serial.{is_newer}
use Rattle.dz_member.specs.declared.listing.Node.{Node}
use Rattle.dz_producer.specs.Amended.{listed, kept, is_dropped, nodes_after, no_label, amend_fault}
use Rattle.dz_outward.specs.Stream.{is_fit}
use Rattle.dz_member.specs.Listing.{same_zone}
use Rattle.dz_settings.specs.Twice.{has_twice}
use Rattle.dz_producer.specs.Draft.{IsDraft, IsHeld, IsGrown, IsGood, Judges, saturated, spent, node_size}
use Rattle.dz_producer.specs.Produced.{produced}
use Rattle.dz_producer.specs.Records.{plain_records, all_records}
use Rattle.dz_producer.specs.declared.draft.Verdict.TheVariants.{Fine, Faulty, Unsure}
use Rattle.dz_producer.specs.declared.fault.ProduceFault.TheVariants.{LabelTwice, BadGroup, NameTooLong, TooMany}
use Rattle.dz_producer.specs.declared.fault.ProduceFault.TheVariants.{ZoneTwice}
use Rattle.dz_producer.specs.Faults.{same_node, has_bad_group, is_long, produce_fault}
use Rattle.dz_producer.specs.declared.draft.Draft.{Draft}
use Rattle.dz_producer.proofs.ChangeLemmas.{all_some, sum_some, tests_none, bad_nodes, change_fine}
use Rattle.dz_producer.proofs.RecordLemmas.{all_append}
use Rattle.dz_zone.specs.Version.{Zone}
use Rattle.dz_produce.specs.Producing.{Making, is_faulty, version_of, begun, with_member, without, changed, may_drop}
use Rattle.dz_produce.specs.inner.Changes.{Changing, Begins}
use Rattle.dz_produce.specs.inner.Makings.{making_of, stays_of, IsAt, IsDrafted, IsSound, ProducesSome}

pub is_none : {X : Type 0} (o : Option X) → is_some o ≡ false → o ≡ None
is_none None h = refl
is_none (Some x) h = absurd (cc)

pub at_none : {X : Type 0} {o : Option X} → o ≡ None → is_some o ≡ false
at_none {o} e = ap is_some e

abbrev pub of : List (List ℕ) → ℕ → Option Zone → List (List ℕ) → List Node → Making
of apex serial before dropped added =
    record { apex = apex; serial = serial; before = before; dropped = dropped; added = added }

-- ---- a node more in the draft
pub grown : (m : Making) (node : Node) (before after : Draft) → IsDrafted m before
    → IsGrown m.apex (stays_of m.before m.dropped ++ m.added) node before after → IsDrafted (with_member m node) after
grown m node before after was more = record {
  draft = rw (append_assoc (stays_of m.before m.dropped) m.added (node ∷ [])) at more.draft;
  octets = let sum : spent m.apex (m.added ++ node ∷ []) ≡ spent m.apex m.added + node_size m.apex node =
      sum_by_push (node_size m.apex) m.added node in
      let o = was.octets in
      let n = more.octets in
      omega arith;
}

module _ (apex : List (List ℕ)) (serial : ℕ) where
  -- the nodes of a catalog without a fault have none
  pub good_nodes : (before : Option Zone) (dropped : List (List ℕ)) (added : List Node) (draft : Draft)
      → IsSound (of apex serial before dropped added) → IsDrafted (of apex serial before dropped added) draft
      → IsGood apex serial (stays_of before dropped ++ added) draft
  unfolding is_faulty
  good_nodes None dropped added draft sound drafted = record {
    draft = drafted.draft;
    octets = let o = drafted.octets in omega arith;
    held = sound.held;
    faultless = is_none (produce_fault apex serial added) sound.faultless;
  }
  good_nodes (Some old) dropped added draft sound drafted =
      let at : IsAt apex old = sound.before old refl in
      let stays : List Node = kept old dropped in
      let none =
      tests_none old serial dropped added (is_none (amend_fault old serial dropped added) sound.faultless) in
      let sum : spent apex (stays ++ added) ≡ spent apex stays + spent apex added =
      sum_by-append (node_size apex) stays added in
      let less = sum_some (λ (n : Node). not (is_dropped dropped n)) (node_size apex) (listed old) in
      let all : spent old.apex (listed old) ≡ spent apex (listed old) =
      ap (λ (a : List (List ℕ)). spent a (listed old)) at.apex_is in
      record {
        draft = drafted.draft;
        octets = let o = drafted.octets in omega arith;
        held = all_append IsHeld stays added
            (all_some (λ (n : Node). not (is_dropped dropped n)) IsHeld (listed old) at.known.held) sound.held;
        faultless = ap (λ (a : List (List ℕ)). produce_fault a serial (stays ++ added)) (sym at.apex_is) ∙ none.1.1;
      }

  -- a node more that is known to be good, or bad
  pub fine : (before : Option Zone) (dropped : List (List ℕ)) (added : List Node) (node : Node) (after : Draft)
      → IsSound (of apex serial before dropped added)
      → IsDrafted (of apex serial before dropped (added ++ node ∷ [])) after → IsHeld node
      → after.octets ≤ 66990000
      → ((t : ℕ) → produce_fault apex t ((stays_of before dropped ++ added) ++ node ∷ []) ≡ None)
      → is_faulty (of apex serial before dropped (added ++ node ∷ [])) ≡ false
  unfolding is_faulty
  fine None dropped added node after sound drafted held few good = at_none (good serial)
  fine (Some old) dropped added node after sound drafted held few good =
      let at : IsAt apex old = sound.before old refl in
      let none =
      tests_none old serial dropped added (is_none (amend_fault old serial dropped added) sound.faultless) in
      let nodes : produce_fault old.apex serial (nodes_after old dropped (added ++ node ∷ [])) ≡ None =
      ap (λ (a : List (List ℕ)). produce_fault a serial (nodes_after old dropped (added ++ node ∷ []))) at.apex_is
      ∙ (ap (produce_fault apex serial) (sym (append_assoc (kept old dropped) added (node ∷ []))) ∙ good serial) in
      let same : spent old.apex (added ++ node ∷ []) ≡ spent apex (added ++ node ∷ []) =
      ap (λ (a : List (List ℕ)). spent a (added ++ node ∷ [])) at.apex_is in
      let o = drafted.octets in
      at_none (change_fine old serial dropped (added ++ node ∷ []) at.known.catalog at.known.held
      (all_append IsHeld added (node ∷ []) sound.held (held, tt)) none.0 none.1.0 nodes (omega arith))

  pub faulty : (before : Option Zone) (dropped : List (List ℕ)) (added : List Node) (node : Node)
      → IsSound (of apex serial before dropped added)
      → ((t : ℕ) → is_some (produce_fault apex t ((stays_of before dropped ++ added) ++ node ∷ [])) ≡ true)
      → is_faulty (of apex serial before dropped (added ++ node ∷ [])) ≡ true
  unfolding is_faulty
  faulty None dropped added node sound bad = bad serial
  faulty (Some old) dropped added node sound bad =
      let at : IsAt apex old = sound.before old refl in
      bad_nodes old serial dropped (added ++ node ∷ [])
      (ap (λ (a : List (List ℕ)). is_some (produce_fault a serial (nodes_after old dropped (added ++ node ∷ []))))
      at.apex_is
      ∙ (ap (λ (ns : List Node). is_some (produce_fault apex serial ns))
      (sym (append_assoc (kept old dropped) added (node ∷ []))) ∙ bad serial))

-- one more of the nodes that are added is put into a draft
pub put_more : (apex : List (List ℕ)) (serial : ℕ) (before : Option Zone) (dropped : List (List ℕ)) (added : List Node)
    (i : ℕ) (node : Node) (was put spent_draft : Draft) → i < length added → node ≡ get_or added i node
    → IsDrafted (of apex serial before dropped (take i added)) was
    → ((nodes : List Node) → IsDraft nodes was → IsDraft (nodes ++ node ∷ []) put) → put.octets ≡ was.octets
    → ((nodes : List Node) → IsDraft nodes put → IsDraft nodes spent_draft)
    → spent_draft.octets ≡ saturated (put.octets + node_size apex node)
    → IsDrafted (of apex serial before dropped (take (i + 1) added)) spent_draft
put_more apex serial before dropped added i node was put spent_draft lt is drafted puts kept_octets spends counted =
    let front : take (i + 1) added ≡ take i added ++ node ∷ [] =
    take_more added i node lt ∙ ap (λ (n : Node). take i added ++ n ∷ []) (sym is) in
    let sum : spent apex (take i added ++ node ∷ []) ≡ spent apex (take i added) + node_size apex node =
    sum_by_push (node_size apex) (take i added) node in
    let o = drafted.octets in
    let more = spends ((stays_of before dropped ++ take i added) ++ node ∷ [])
    (puts (stays_of before dropped ++ take i added) drafted.draft) in
    rw front (record {
      draft = rw (append_assoc (stays_of before dropped) (take i added) (node ∷ [])) at more;
      octets = omega arith;
    })

-- ---- verdicts on a node more
pub judged_fine : (m : Making) (node : Node) (before after : Draft)
    → IsSound m → IsDrafted m before → Judges Fine m.apex node before after
    → IsHeld node × (is_faulty (with_member m node) ≡ false) × IsDrafted (with_member m node) after
judged_fine m node before after sound drafted judges =
    let told = judges m.serial (stays_of m.before m.dropped ++ m.added)
    (good_nodes m.apex m.serial m.before m.dropped m.added before sound drafted) in
    let more = grown m node before after drafted told.0 in (
      told.0.held,
      fine m.apex m.serial m.before m.dropped m.added node after sound more told.0.held told.1 told.2,
      more,
    )

pub judged_unsure : (m : Making) (node : Node) (before after : Draft) → IsSound m → IsDrafted m before
    → Judges Unsure m.apex node before after → IsHeld node × IsDrafted (with_member m node) after
judged_unsure m node before after sound drafted judges =
    let told = judges m.serial (stays_of m.before m.dropped ++ m.added)
    (good_nodes m.apex m.serial m.before m.dropped m.added before sound drafted) in
    (told.held, grown m node before after drafted told)

pub judged_faulty : (m : Making) (node : Node) (before after : Draft) → IsSound m → IsDrafted m before
    → Judges Faulty m.apex node before after → is_faulty (with_member m node) ≡ true
judged_faulty m node before after sound drafted judges =
    faulty m.apex m.serial m.before m.dropped m.added node sound (judges m.serial (stays_of m.before m.dropped
    ++ m.added) (good_nodes m.apex m.serial m.before m.dropped m.added before sound drafted))

-- ---- a catalog without a fault can be sent
pub fit_of : (apex : List (List ℕ)) (serial : ℕ) (nodes : List Node) → produce_fault apex serial nodes ≡ None
    → is_fit (produced apex serial nodes) ≡ true
unfolding produce_fault
fit_of apex serial nodes h =
    last (has_twice same_node nodes) (list_any has_bad_group nodes)
    (list_any (λ r. is_long r.owner) (plain_records apex serial nodes)) (nat_lt 65536 (length nodes))
    (nat_lt 250000 (length (all_records apex serial nodes))) (is_fit (produced apex serial nodes))
    (has_twice same_zone nodes) h
  where
    last : (a b c d e f g : Bool)
        → (if a then Some LabelTwice else if b then Some BadGroup else if c then Some NameTooLong else if d
        || (e || not f) then Some TooMany else if g then Some ZoneTwice else None) ≡ None → f ≡ true
    last true b c d e f g h = absurd (cc)
    last false true c d e f g h = absurd (cc)
    last false false true d e f g h = absurd (cc)
    last false false false true e f g h = absurd (cc)
    last false false false false true f g h = absurd (cc)
    last false false false false false false g h = absurd (cc)
    last false false false false false true g h = refl

-- ---- tests
pub not_true : {b : Bool} → not b ≡ true → b ≡ false
not_true {b} h = turned b h
  where
    turned : (b : Bool) → not b ≡ true → b ≡ false
    turned true h = absurd (cc)
    turned false h = refl

pub not_false : {b : Bool} → not b ≡ false → b ≡ true
not_false {b} h = turned b h
  where
    turned : (b : Bool) → not b ≡ false → b ≡ true
    turned true h = refl
    turned false h = absurd (cc)

pub some_is : (apex : List (List ℕ)) (serial : ℕ) (version : Option Zone) → ProducesSome apex serial [] version
    → is_some version ≡ not (is_faulty (begun apex serial))
unfolding is_faulty
some_is apex serial None produces = rw produces refl
some_is apex serial (Some version) produces = rw produces.faultless refl

-- ---- what is made has the apex
pub apex_of : (apex : List (List ℕ)) (serial : ℕ) (before : Option Zone) (dropped : List (List ℕ)) (added : List Node)
    → ForSome before (IsAt apex) → (version_of (of apex serial before dropped added)).apex ≡ apex
unfolding version_of
apex_of apex serial None dropped added at = refl
apex_of apex serial (Some old) dropped added at = let here : IsAt apex old = at old refl in here.apex_is

-- ---- a label more is dropped, or not
module _ (apex : List (List ℕ)) (serial : ℕ) (old new : Changing) (added : List Node) (label : List ℕ)
    (sound : IsSound (making_of apex serial (Some old) added)) (none : added ≡ []) where
  abbrev good_drop : Bool
  good_drop = not (is_some (amend_fault old.zone serial (old.dropped ++ label ∷ []) []))

  abbrev after_drop : Bool → Changing
  after_drop good = if good then record old { dropped = old.dropped ++ label ∷ [] } else old

  pub before_drop : (is_newer (held_serial old.zone) serial ≡ true) × ((no_label old.zone old.dropped ≡ false)
      × (produce_fault old.zone.apex serial (nodes_after old.zone old.dropped added) ≡ None))
  unfolding is_faulty
  before_drop = tests_none old.zone serial old.dropped added
      (is_none (amend_fault old.zone serial old.dropped added) sound.faultless)

  pub dropped_sound : {E : Type 0} (r : Result Bool E) → IfOk r (λ good. good ≡ good_drop)
      → IfOk r (λ good. new ≡ after_drop good) → OnErr r (new ≡ old) → IsSound (making_of apex serial (Some new) added)
  unfolding is_faulty
  dropped_sound (Err e) good is same = rw same sound
  dropped_sound (Ok false) good is same = rw is sound
  dropped_sound (Ok true) good is same =
      rw is (record {
        faultless = ap (λ (ns : List Node). is_some (amend_fault old.zone serial (old.dropped ++ label ∷ []) ns)) none
            ∙ not_true (sym good);
        before = λ z e. sound.before z (e);
        held = sound.held;
      })

  pub dropped_good : {E : Type 0} (r : Result Bool E) → IfOk r (λ good. good ≡ good_drop)
      → IfOk r (λ good. good ≡ (may_drop (making_of apex serial (Some old) added)
      && not (is_faulty (without (making_of apex serial (Some old) added) label))))
  unfolding is_faulty
  dropped_good (Err e) good = tt
  dropped_good (Ok b) good = rw none good

-- ---- a change begins, or not
pub begun_sound : (m : Making) (apex : List (List ℕ)) (serial : ℕ) (version : Zone) (change : Changing)
    (added : List Node) → version.apex ≡ apex → Begins version serial change → added ≡ []
    → IsSound (making_of apex serial (Some change) added)
unfolding is_faulty
begun_sound m apex serial version change added at begins none =
    rw (begins.begins, none) (record {
      faultless = at_none begins.faultless;
      before = λ z e. let same : version ≡ z = cc in rw (← same) (record { known = begins.known; apex_is = at });
      held = tt;
    })

pub begun_bad : (m : Making) (serial : ℕ) (version : Zone) → version ≡ version_of m
    → is_some (amend_fault version serial [] []) ≡ true → false ≡ not (is_faulty (changed m serial))
unfolding is_faulty
begun_bad m serial version is bad = rw (← is, bad) refl

pub begun_good : (m : Making) (serial : ℕ) (version : Zone) (change : Changing) → version ≡ version_of m
    → Begins version serial change → true ≡ not (is_faulty (changed m serial))
unfolding is_faulty
begun_good m serial version change is begins = rw (← is, begins.faultless) refl

pub begun_is : (m : Making) (apex : List (List ℕ)) (serial : ℕ) (version : Zone) (change : Changing)
    (added : List Node) → m.apex ≡ apex → version ≡ version_of m → Begins version serial change → added ≡ []
    → making_of apex serial (Some change) added ≡ changed m serial
begun_is m apex serial version change added at is begins none = rw (begins.begins, none, is, at) refl

pub empty_of : {X : Type 0} (xs : List X) (n : ℕ) (b : Bool) → n ≡ length xs → b ≡ (n == 0) → b ≡ true → xs ≡ []
empty_of [] n b len is holds = refl
empty_of (x ∷ xs) n b len is holds = let some : (n == 0) ≡ false = grind (arith, nat_tests) in absurd (cc)
