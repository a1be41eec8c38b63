-- Places amid a form of differences: some records lead on to an end, and what a record that doesn't fit is blamed for.
use Rattle.std.proofs.Common.{◌≡◌, ℕ, Bool, true, false, List, [], ◌∷◌, refl, sym, ◌∙◌, ap, inl, inr, Some, None}
use Rattle.std.proofs.Common.{Option}
use Rattle.std.proofs.lemmas.Bool.{cases_Bool, eqb-true}
use Rattle.std.specs.Prelude.{◌==◌}
use Rattle.std.specs.List.{find, fold}
use Rattle.std.specs.Option.{option_map_or}
use Rattle.std.specs.Str.{bytes_eq}
use Rattle.dz_name.specs.Words.{Name}
use Rattle.dz_name.specs.Numbers.{number_of_four}
use Rattle.dz_name.specs.Order.{same_decides}
use Rattle.dz_name.specs.declared.dns.TheConstants.{TYPE_SOA}
use Rattle.dz_record.specs.Record.{Record}
use Rattle.dz_record.specs.Records.{insertion}
use Rattle.dz_zone.specs.Version.{Zone}
use Rattle.dz_zone.proofs.FaultLemmas.{found_passes}
use Rattle.dz_xfr.specs.declared.fault.ShapeFault.{ShapeFault}
use Rattle.dz_xfr.specs.declared.fault.ShapeFault.TheVariants.{NotSoaFirst, SerialGap}
use Rattle.dz_xfr.specs.Apex.{is_apex_soa, serial_of, held_serial}
use Rattle.dz_xfr.specs.Place.{Place, amid, ended, failed, read}
use Rattle.dz_xfr.specs.Stands.{Stands, Reading}
use Rattle.dz_xfr.proofs.ReadingLemmas.{Agrees, ended_not_amid, failed_not_amid, reading_stands, stands_once}
use Rattle.dz_ixfr.specs.Incremental.{is_there, others, IsIncremental, turned, is_even, blamed, Blames}
use Rattle.dz_ixfr.specs.Reading.{Amid, nothing, begun, deleting, adding, one, start, place_of, reading_of}
use Rattle.dz_ixfr.proofs.ToEnd.{go, to_end, step_first, step_held, step_new, step_old, step_end}
use Rattle.dz_ixfr.proofs.FromEnd.{apart, from_end}

module _ (apex : Name) where
  -- some SOA of the apex has the serial
  abbrev pub Brings : ℕ → Type 0
  Brings serial = (r : Record) × (is_apex_soa apex r ≡ true) × (serial_of r ≡ serial)

  -- what is known amid the form: its first record is an SOA, and some SOA has the serial
  abbrev pub Good : Amid → Type 0
  Good (nothing serial zone) = Brings serial
  Good (begun first serial zone) = (is_apex_soa apex first ≡ true) × Brings serial
  Good (deleting first zone) = is_apex_soa apex first ≡ true
  Good (adding first serial zone) = (is_apex_soa apex first ≡ true) × Brings serial

  -- an even number of SOAs was read
  abbrev pub parity : Amid → Bool
  parity (nothing serial zone) = true
  parity (begun first serial zone) = false
  parity (deleting first zone) = true
  parity (adding first serial zone) = false

  -- two records or more were read
  abbrev pub IsPast : Amid → Type 0
  IsPast (nothing serial zone) = ⊥
  IsPast (begun first serial zone) = ⊥
  IsPast (deleting first zone) = Unit {0}
  IsPast (adding first serial zone) = Unit {0}

  record Next (x : Amid) (r : Record) (y : Amid) : Type 0 where
    good : Good y
    even : turned apex (parity x) r ≡ parity y
    past : IsPast x → IsPast y

  amid_same : {x y : Amid} → amid x ≡ amid y → x ≡ y
  amid_same e = cc

  failed_same : {a b : ShapeFault} → ◌≡◌ {A = Place Amid} (failed a) (failed b) → a ≡ b
  failed_same e = cc

  next : (x : Amid) (r : Record) (y : Amid) → Good x → one apex x r ≡ amid y → Next x r y
  next (nothing serial zone) r y g e =
      elim (cases_Bool (is_apex_soa apex r)) [
        | inr f ↦ let k = rw f at e in absurd (cc)
        | inl t ↦ let k = amid_same (rw t at e) in rw (← k) (record { good = (t, g); even = rw t refl; past = λ p. p })
      ]
  next (begun first serial zone) r y g e =
      elim (cases_Bool (is_apex_soa apex r)) [
        | inr f ↦ let k = rw f at e in absurd (cc)
        | inl t ↦
            elim (cases_Bool (serial_of r == serial)) [
              | inr f ↦ let k = rw (t, f) at e in absurd (cc)
              | inl b ↦ let k = amid_same (rw (t, b) at e) in
                  rw (← k) (record { good = g.0; even = rw t refl; past = λ p. tt })
            ]
      ]
  next (deleting first zone) r y g e =
      elim (cases_Bool (is_apex_soa apex r)) [
        | inl t ↦ let k = amid_same (rw t at e) in
            rw (← k) (record { good = (g, (r, t, refl)); even = rw t refl; past = λ p. tt })
        | inr f ↦
            elim (cases_Bool (is_there r zone)) [
              | inr n ↦ let k = rw (f, n) at e in absurd (cc)
              | inl t ↦ let k = amid_same (rw (f, t) at e) in
                  rw (← k) (record { good = g; even = rw f refl; past = λ p. tt })
            ]
      ]
  next (adding first serial zone) r y g e =
      elim (cases_Bool (is_apex_soa apex r)) [
        | inr f ↦
            elim (cases_Bool (is_there r zone)) [
              | inl t ↦ let k = rw (f, t) at e in absurd (cc)
              | inr n ↦ let k = amid_same (rw (f, n) at e) in
                  rw (← k) (record { good = g; even = rw f refl; past = λ p. tt })
            ]
        | inl t ↦
            elim (cases_Bool (serial == serial_of first)) [
              | inl s ↦
                  elim (cases_Bool (bytes_eq r.rdata first.rdata)) [
                    | inl b ↦ let k = rw (t, s, b) at e in absurd (cc)
                    | inr b ↦ let k = rw (t, s, b) at e in absurd (cc)
                  ]
              | inr s ↦
                  elim (cases_Bool (serial_of r == serial)) [
                    | inr b ↦ let k = rw (t, s, b) at e in absurd (cc)
                    | inl b ↦ let k = amid_same (rw (t, s, b) at e) in
                        rw (← k) (record { good = g.0; even = rw t refl; past = λ p. tt })
                  ]
            ]
      ]

  -- the same over some records
  record Onward (x : Amid) (rest : List Record) (y : Amid) : Type 0 where
    pub good : Good y
    pub even : fold (turned apex) (parity x) rest ≡ parity y
    pub past : IsPast x → IsPast y

  onward : (x : Amid) (rest : List Record) (y : Amid) → Good x → go apex (amid x) rest ≡ amid y → Onward x rest y
  onward x [] y g e = let k = amid_same e in rw (← k) (record { good = g; even = refl; past = λ p. p })
  onward x (r ∷ rest) y g e =
      (elim (one apex x r) as (λ p. one apex x r ≡ p → go apex p rest ≡ amid y → Onward x (r ∷ rest) y) [
        | failed fault ↦ λ q f. absurd (failed_not_amid (one apex) fault rest y f)
        | ended zone ↦ λ q f. absurd (ended_not_amid (one apex) zone rest y f)
        | amid z ↦ λ q f.
            let n = next x r z g q in
            let w = onward z rest y n.good f in
            record {
              good = w.good;
              even = ap (λ b. fold (turned apex) b rest) n.even ∙ w.even;
              past = λ p. w.past (n.past p);
            }
      ]) refl e

  blame_past : (front : List Record) (first second : Record) (x : Amid) (r : Record) (fault : ShapeFault) → IsPast x
      → is_even apex (first ∷ second ∷ front) ≡ parity x → one apex x r ≡ failed fault
      → fault ≡ blamed apex (first ∷ second ∷ front) r
  blame_past front first second (nothing serial zone) r fault p h e = absurd p
  blame_past front first second (begun own serial zone) r fault p h e = absurd p
  blame_past front first second (deleting own zone) r fault p h e =
      elim (cases_Bool (is_apex_soa apex r)) [
        | inl t ↦ let k = rw t at e in absurd (cc)
        | inr f ↦
            elim (cases_Bool (is_there r zone)) [
              | inl t ↦ let k = rw (f, t) at e in absurd (cc)
              | inr n ↦ let k = rw (f, n) at e in rw (f, h) (failed_same (sym k))
            ]
      ]
  blame_past front first second (adding own serial zone) r fault p h e =
      elim (cases_Bool (is_apex_soa apex r)) [
        | inr f ↦
            elim (cases_Bool (is_there r zone)) [
              | inl t ↦ let k = rw (f, t) at e in rw (f, h) (failed_same (sym k))
              | inr n ↦ let k = rw (f, n) at e in absurd (cc)
            ]
        | inl t ↦
            elim (cases_Bool (serial == serial_of own)) [
              | inl s ↦
                  elim (cases_Bool (bytes_eq r.rdata own.rdata)) [
                    | inl b ↦ let k = rw (t, s, b) at e in absurd (cc)
                    | inr b ↦ let k = rw (t, s, b) at e in rw t (failed_same (sym k))
                  ]
              | inr s ↦
                  elim (cases_Bool (serial_of r == serial)) [
                    | inr b ↦ let k = rw (t, s, b) at e in rw t (failed_same (sym k))
                    | inl b ↦ let k = rw (t, s, b) at e in absurd (cc)
                  ]
            ]
      ]

  blame_begun : (first r : Record) (serial : ℕ) (zone : List Record) (fault : ShapeFault)
      → one apex (begun first serial zone) r ≡ failed fault → fault ≡ SerialGap
  blame_begun first r serial zone fault e =
      elim (cases_Bool (is_apex_soa apex r)) [
        | inr f ↦ let k = rw f at e in failed_same (sym k)
        | inl t ↦
            elim (cases_Bool (serial_of r == serial)) [
              | inr f ↦ let k = rw (t, f) at e in failed_same (sym k)
              | inl b ↦ let k = rw (t, b) at e in absurd (cc)
            ]
      ]

  blame_none : (r : Record) (serial : ℕ) (zone : List Record) (fault : ShapeFault)
      → one apex (nothing serial zone) r ≡ failed fault → fault ≡ NotSoaFirst
  blame_none r serial zone fault e =
      elim (cases_Bool (is_apex_soa apex r)) [
        | inr f ↦ let k = rw f at e in failed_same (sym k)
        | inl t ↦ let k = rw t at e in absurd (cc)
      ]

  begun_read : (first : Record) (serial : ℕ) (zone : List Record) (x : Amid)
      → go apex (amid (nothing serial zone)) (first ∷ []) ≡ amid x
      → (is_apex_soa apex first ≡ true) × (begun first serial zone ≡ x)
  begun_read first serial zone x e =
      elim (cases_Bool (is_apex_soa apex first)) [
        | inr f ↦ let k = rw f at e in absurd (cc)
        | inl t ↦ (t, amid_same (rw t at e))
      ]

  two_read : (first second : Record) (serial : ℕ) (zone rest : List Record) (x : Amid)
      → go apex (amid (nothing serial zone)) (first ∷ second ∷ rest) ≡ amid x
      → (is_apex_soa apex first ≡ true) × (is_apex_soa apex second ≡ true)
      × (go apex (amid (deleting first zone)) rest ≡ amid x)
  two_read first second serial zone rest x e =
      elim (cases_Bool (is_apex_soa apex first)) [
        | inr f ↦ absurd (failed_not_amid (one apex) NotSoaFirst (second ∷ rest) x (rw f at e))
        | inl t ↦
            elim (cases_Bool (is_apex_soa apex second)) [
              | inr f ↦ absurd (failed_not_amid (one apex) SerialGap rest x (rw (t, f) at e))
              | inl u ↦
                  elim (cases_Bool (serial_of second == serial)) [
                    | inr f ↦ absurd (failed_not_amid (one apex) SerialGap rest x (rw (t, u, f) at e))
                    | inl b ↦ (t, u, rw (t, u, b) at e)
                  ]
            ]
      ]

  blame : (serial : ℕ) (zone records : List Record) (x : Amid) (r : Record) (fault : ShapeFault)
      → go apex (amid (nothing serial zone)) records ≡ amid x → one apex x r ≡ failed fault
      → Blames apex records r fault
  blame serial zone [] x r fault e q = blame_none r serial zone fault (ap (λ y. one apex y r) (amid_same e) ∙ q)
  blame serial zone (first ∷ []) x r fault e q =
      let w = begun_read first serial zone x e in
      blame_begun first r serial zone fault (ap (λ y. one apex y r) w.1 ∙ q)
  blame serial zone (first ∷ second ∷ rest) x r fault e q =
      let w = two_read first second serial zone rest x e in
      let k = onward (deleting first zone) rest x w.0 w.2 in
      let even : is_even apex (first ∷ second ∷ rest) ≡ parity x = rw (w.0, w.1) k.even in
      blame_past rest first second x r fault (k.past tt) even q

  ends_deleting : (first : Record) (zone : List Record) → is_apex_soa apex first ≡ true
      → go apex (amid (deleting first zone)) (first ∷ first ∷ []) ≡ ended (insertion first zone)
  ends_deleting first zone g = ap (λ p. go apex p (first ∷ [])) (step_new apex first first zone g)
      ∙ step_end apex first first (serial_of first) zone g refl refl

  ends_begun : (first new : Record) (serial : ℕ) (zone : List Record)
      → is_apex_soa apex first ≡ true → is_apex_soa apex new ≡ true → serial_of new ≡ serial
      → go apex (amid (begun first serial zone)) (new ∷ first ∷ first ∷ []) ≡ ended (insertion first zone)
  ends_begun first new serial zone g t e =
      ap (λ p. go apex p (first ∷ first ∷ [])) (step_held apex first new serial zone t e) ∙ ends_deleting first zone g

  completes : (x : Amid) → Good x → (rest : List Record) × (zone : List Record) × (go apex (amid x) rest ≡ ended zone)
  completes (deleting first zone) g = (first ∷ first ∷ [], insertion first zone, ends_deleting first zone g)
  completes (begun first serial zone) g =
      (g.1.0 ∷ first ∷ first ∷ [], insertion first zone, ends_begun first g.1.0 serial zone g.0 g.1.1 g.1.2)
  completes (nothing serial zone) g = (
    g.0 ∷ g.0 ∷ g.0 ∷ g.0 ∷ [],
    insertion g.0 zone,
    ap (λ p. go apex p (g.0 ∷ g.0 ∷ g.0 ∷ [])) (step_first apex g.0 serial zone g.1)
        ∙ ends_begun g.0 g.0 serial zone g.1 g.1 g.2,
  )
  completes (adding first serial zone) g =
      elim (cases_Bool (serial == serial_of first)) [
        | inl s ↦ (
          first ∷ [],
          insertion first zone,
          step_end apex first first serial zone g.0 (eqb-true serial (serial_of first) s) refl,
        )
        | inr s ↦ (
          g.1.0 ∷ first ∷ first ∷ [],
          insertion first zone,
          ap (λ p. go apex p (first ∷ first ∷ [])) (step_old apex first g.1.0 serial zone g.1.1
              (apart serial (serial_of first) s) g.1.2) ∙ ends_deleting first zone g.0,
        )
      ]

-- an SOA of the apex without RDATA, whose serial is 0
an_soa : Name → Record
an_soa apex = record { owner = apex; kind = TYPE_SOA; ttl = 0; rdata = [] }

an_soa_is : (apex : Name) → is_apex_soa apex (an_soa apex) ≡ true
unfolding an_soa
an_soa_is apex = (same_decides apex apex).1 refl

an_soa_serial : (apex : Name) → serial_of (an_soa apex) ≡ 0
unfolding an_soa number_of_four
an_soa_serial apex = refl

-- some SOA of the apex has the held serial
brings_found : (held : Zone) (found : Option Record) → found ≡ find (is_apex_soa held.apex) held.records
    → Brings held.apex (option_map_or serial_of found 0)
brings_found held None e = (an_soa held.apex, an_soa_is held.apex, an_soa_serial held.apex)
brings_found held (Some soa) e = (soa, found_passes (is_apex_soa held.apex) held.records soa e, refl)

brings_held : (held : Zone) → Brings held.apex (held_serial held)
brings_held held = brings_found held (find (is_apex_soa held.apex) held.records) refl

leads_to_end : (held : Zone) (records : List Record) (x : Amid) → place_of held records ≡ amid x
    → (rest : List Record) × (zone : List Record) × (read (one held.apex) (amid x) rest ≡ ended zone)
leads_to_end held records x e =
    completes held.apex x (onward held.apex (start held) records x (brings_held held) e).good

one_fault : (apex : Name) (front : List Record) (r : Record) (a b : ShapeFault) → Blames apex front r a
    → Blames apex front r b → a ≡ b
one_fault apex front r a b e f = e ∙ sym f

pub agrees : (held : Zone) → Agrees (one held.apex) (start held) (IsIncremental held) (Blames held.apex)
agrees held = record {
  to_end = to_end held;
  from_end = from_end held;
  leads_on = leads_to_end held;
  blame = blame held.apex (held_serial held) (others held);
  one_fault = one_fault held.apex;
}

pub form_stands : (held : Zone) (records : List Record)
    → Stands (IsIncremental held) (Blames held.apex) records (reading_of held records)
form_stands held records =
    reading_stands (one held.apex) (start held) (IsIncremental held) (Blames held.apex) (agrees held) records

pub form_stands_once : (held : Zone) (records : List Record) (reading : Reading)
    → Stands (IsIncremental held) (Blames held.apex) records reading → reading ≡ reading_of held records
form_stands_once held records reading s =
    stands_once (one held.apex) (start held) (IsIncremental held) (Blames held.apex) (agrees held) records reading s
