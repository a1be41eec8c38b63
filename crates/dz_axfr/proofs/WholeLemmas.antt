-- The reading of the whole form is that form.
use Rattle.std.proofs.Common.{◌≡◌, true, false, List, [], ◌∷◌, ◌++◌, refl, sym, ◌∙◌, ap, inl, inr, append_assoc}
use Rattle.std.proofs.lemmas.List.{append-nil}
use Rattle.std.proofs.lemmas.Bool.{cases_Bool}
use Rattle.std.proofs.lemmas.Slice.Eq.{bytes_eq-Decides}
use Rattle.std.specs.Str.{bytes_eq}
use Rattle.std.specs.List.{AllByRecursion}
use Rattle.dz_name.specs.Words.{Name}
use Rattle.dz_name.specs.Order.{same_decides}
use Rattle.dz_name.specs.declared.dns.TheConstants.{TYPE_SOA}
use Rattle.dz_record.specs.Record.{Record}
use Rattle.dz_record.specs.Records.{distinct}
use Rattle.dz_xfr.specs.declared.fault.ShapeFault.{ShapeFault}
use Rattle.dz_xfr.specs.declared.fault.ShapeFault.TheVariants.{NotSoaFirst, SerialGap}
use Rattle.dz_xfr.specs.Apex.{is_apex_soa}
use Rattle.dz_xfr.specs.Place.{amid, ended, failed, read}
use Rattle.dz_xfr.specs.Stands.{Stands, Reading}
use Rattle.dz_xfr.proofs.ReadingLemmas.{Agrees, ended_alone, failed_not_ended, ended_not_amid, failed_not_amid}
use Rattle.dz_xfr.proofs.ReadingLemmas.{reading_stands, stands_once}
use Rattle.dz_axfr.specs.Whole.{IsWhole, Blames}
use Rattle.dz_axfr.specs.Reading.{Amid, nothing, opened, one, reading_of}

module _ (apex : Name) where
  opens : (first : Record) → is_apex_soa apex first ≡ true → one apex nothing first ≡ amid (opened first [])
  opens first t = rw t refl

  joins : (first r : Record) (front : List Record) → is_apex_soa apex r ≡ false
      → one apex (opened first front) r ≡ amid (opened first (front ++ r ∷ []))
  joins first r front f = rw f refl

  closes : (first r : Record) (front : List Record) → is_apex_soa apex r ≡ true → r.rdata ≡ first.rdata
      → one apex (opened first front) r ≡ ended (distinct (first ∷ front))
  closes first r front t e = rw (t, (bytes_eq-Decides r.rdata first.rdata).1 e) refl

  -- a body is read record by record
  pub read_body : (first : Record) (front body rest : List Record)
      → AllByRecursion (λ r. is_apex_soa apex r ≡ false) body
      → read (one apex) (amid (opened first front)) (body ++ rest)
      ≡ read (one apex) (amid (opened first (front ++ body))) rest
  read_body first front [] rest h = rw (append-nil front) refl
  read_body first front (r ∷ body) rest h =
      ap (λ p. read (one apex) p (body ++ rest)) (joins first r front h.0)
      ∙ (read_body first (front ++ r ∷ []) body rest h.1
      ∙ ap (λ l. read (one apex) (amid (opened first l)) rest) (append_assoc front (r ∷ []) body))

  read_whole : (first last : Record) (body : List Record) → is_apex_soa apex first ≡ true
      → AllByRecursion (λ r. is_apex_soa apex r ≡ false) body
      → is_apex_soa apex last ≡ true → last.rdata ≡ first.rdata
      → read (one apex) (amid nothing) (first ∷ (body ++ last ∷ [])) ≡ ended (distinct (first ∷ body))
  read_whole first last body o i c s =
      ap (λ p. read (one apex) p (body ++ last ∷ [])) (opens first o)
      ∙ (read_body first [] body (last ∷ []) i ∙ closes first last body c s)

  to_end : (records zone : List Record) → IsWhole apex records zone
      → read (one apex) (amid nothing) records ≡ ended zone
  to_end records zone w = rw (w.are, w.zone_is) (read_whole w.first w.last w.body w.opens w.inner w.closes w.same)

  -- what follows the first SOA and a prefix of the body, up to the end
  record Rest (first : Record) (front rest zone : List Record) : Type 0 where
    body : List Record
    last : Record
    are : rest ≡ body ++ last ∷ []
    inner : AllByRecursion (λ r. is_apex_soa apex r ≡ false) body
    closing : is_apex_soa apex last ≡ true
    same : last.rdata ≡ first.rdata
    zone_is : zone ≡ distinct (first ∷ (front ++ body))

  rest_joins : (first r : Record) (front rest zone : List Record) → is_apex_soa apex r ≡ false
      → Rest first (front ++ r ∷ []) rest zone → Rest first front (r ∷ rest) zone
  rest_joins first r front rest zone f w = record {
    body = r ∷ w.body;
    last = w.last;
    are = ap (λ l. r ∷ l) w.are;
    inner = (f, w.inner);
    closing = w.closing;
    same = w.same;
    zone_is = w.zone_is ∙ ap (λ l. distinct (first ∷ l)) (append_assoc front (r ∷ []) w.body);
  }

  rest_closes : (first r : Record) (front rest zone : List Record) → is_apex_soa apex r ≡ true
      → bytes_eq r.rdata first.rdata ≡ true → read (one apex) (ended (distinct (first ∷ front))) rest ≡ ended zone
      → Rest first front (r ∷ rest) zone
  rest_closes first r front rest zone t s e =
      let k = ended_alone (one apex) (distinct (first ∷ front)) zone rest e in
      record {
        body = [];
        last = r;
        are = ap (λ l. r ∷ l) k.0;
        inner = tt;
        closing = t;
        same = (bytes_eq-Decides r.rdata first.rdata).0 s;
        zone_is = sym k.1 ∙ ap (λ l. distinct (first ∷ l)) (sym (append-nil front));
      }

  rest_from : (first : Record) (front rest zone : List Record)
      → read (one apex) (amid (opened first front)) rest ≡ ended zone → Rest first front rest zone
  rest_from first front [] zone e = absurd (cc)
  rest_from first front (r ∷ rest) zone e =
      elim (cases_Bool (is_apex_soa apex r)) [
        | inr f ↦ rest_joins first r front rest zone f (rest_from first (front ++ r ∷ []) rest zone (rw f at e))
        | inl t ↦
            elim (cases_Bool (bytes_eq r.rdata first.rdata)) [
              | inr g ↦ absurd (failed_not_ended (one apex) SerialGap rest zone (rw (t, g) at e))
              | inl s ↦ rest_closes first r front rest zone t s (rw (t, s) at e)
            ]
      ]

  from_end : (records zone : List Record) → read (one apex) (amid nothing) records ≡ ended zone
      → IsWhole apex records zone
  from_end [] zone e = absurd (cc)
  from_end (first ∷ rest) zone e =
      elim (cases_Bool (is_apex_soa apex first)) [
        | inr f ↦ absurd (failed_not_ended (one apex) NotSoaFirst rest zone (rw f at e))
        | inl t ↦
            let w = rest_from first [] rest zone (rw t at e) in
            record {
              first = first;
              body = w.body;
              last = w.last;
              are = ap (λ l. first ∷ l) w.are;
              opens = t;
              inner = w.inner;
              closes = w.closing;
              same = w.same;
              zone_is = w.zone_is;
            }
      ]

  -- a place amid the form: the first SOA and a prefix of the body were read
  amid_body : (first : Record) (front rest : List Record) (x : Amid)
      → read (one apex) (amid (opened first front)) rest ≡ amid x → (body : List Record) × (x ≡ opened first body)
  amid_body first front [] x e = (front, cc)
  amid_body first front (r ∷ rest) x e =
      elim (cases_Bool (is_apex_soa apex r)) [
        | inr f ↦ amid_body first (front ++ r ∷ []) rest x (rw f at e)
        | inl t ↦
            elim (cases_Bool (bytes_eq r.rdata first.rdata)) [
              | inr g ↦ absurd (failed_not_amid (one apex) SerialGap rest x (rw (t, g) at e))
              | inl s ↦ absurd (ended_not_amid (one apex) (distinct (first ∷ front)) rest x (rw (t, s) at e))
            ]
      ]

  amid_opened : (first : Record) (rest : List Record) (x : Amid) → read (one apex) (amid nothing) (first ∷ rest)
      ≡ amid x → (is_apex_soa apex first ≡ true) × ((body : List Record) × (x ≡ opened first body))
  amid_opened first rest x e =
      elim (cases_Bool (is_apex_soa apex first)) [
        | inr f ↦ absurd (failed_not_amid (one apex) NotSoaFirst rest x (rw f at e))
        | inl t ↦ let w = amid_body first [] rest x (rw t at e) in (t, (w.0, w.1))
      ]

  an_soa : Record
  an_soa = record { owner = apex; kind = TYPE_SOA; ttl = 0; rdata = [] }

  an_soa_is : is_apex_soa apex an_soa ≡ true
  unfolding an_soa
  an_soa_is = (same_decides apex apex).1 refl

  leads_on : (records : List Record) (x : Amid) → read (one apex) (amid nothing) records ≡ amid x
      → (rest : List Record) × (zone : List Record) × (read (one apex) (amid x) rest ≡ ended zone)
  leads_on [] nothing e =
      (an_soa ∷ an_soa ∷ [], distinct (an_soa ∷ []), read_whole an_soa an_soa [] an_soa_is tt an_soa_is refl)
  leads_on [] (opened first body) e = absurd (cc)
  leads_on (first ∷ rest) x e =
      let w = amid_opened first rest x e in
      let k : one apex x first ≡ ended (distinct (first ∷ w.1.0)) =
      ap (λ y. one apex y first) w.1.1 ∙ closes first first w.1.0 w.0 refl in
      (first ∷ [], distinct (first ∷ w.1.0), k)

  gap_blamed : (first r : Record) (body : List Record) (fault : ShapeFault)
      → one apex (opened first body) r ≡ failed fault → fault ≡ SerialGap
  gap_blamed first r body fault q =
      elim (cases_Bool (is_apex_soa apex r)) [
        | inr f ↦ let k = rw f at q in absurd (cc)
        | inl t ↦
            elim (cases_Bool (bytes_eq r.rdata first.rdata)) [
              | inr g ↦ let k = rw (t, g) at q in cc
              | inl s ↦ let k = rw (t, s) at q in absurd (cc)
            ]
      ]

  blame : (records : List Record) (x : Amid) (r : Record) (fault : ShapeFault)
      → read (one apex) (amid nothing) records ≡ amid x → one apex x r ≡ failed fault → Blames records r fault
  blame [] (opened first body) r fault e q = absurd (cc)
  blame [] nothing r fault e q =
      elim (cases_Bool (is_apex_soa apex r)) [
        | inr f ↦ let k = rw f at q in cc
        | inl t ↦ let k = rw t at q in absurd (cc)
      ]
  blame (first ∷ rest) x r fault e q =
      let w = amid_opened first rest x e in
      gap_blamed first r w.1.0 fault (ap (λ y. one apex y r) (sym w.1.1) ∙ q)

  one_fault : (front : List Record) (r : Record) (a b : ShapeFault) → Blames front r a → Blames front r b → a ≡ b
  one_fault [] r a b e f = e ∙ sym f
  one_fault (first ∷ front) r a b e f = e ∙ sym f

  pub agrees : Agrees (one apex) nothing (IsWhole apex) Blames
  agrees = record { to_end = to_end; from_end = from_end; leads_on = leads_on; blame = blame; one_fault = one_fault }

pub owner_opens : (apex : Name) (r : Record) → apex ≡ r.owner → r.kind ≡ TYPE_SOA → is_apex_soa apex r ≡ true
owner_opens apex r e k = rw k ((same_decides r.owner apex).1 (sym e))

pub whole_stands : (apex : Name) (records : List Record)
    → Stands (IsWhole apex) Blames records (reading_of apex records)
whole_stands apex records = reading_stands (one apex) nothing (IsWhole apex) Blames (agrees apex) records

pub whole_stands_once : (apex : Name) (records : List Record) (reading : Reading)
    → Stands (IsWhole apex) Blames records reading → reading ≡ reading_of apex records
whole_stands_once apex records reading s =
    stands_once (one apex) nothing (IsWhole apex) Blames (agrees apex) records reading s
