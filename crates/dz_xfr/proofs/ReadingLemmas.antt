-- A form read record by record: from five facts of a form and its reading it follows that the reading says of a list
-- what holds of it, and that nothing else does.
use Rattle.std.proofs.Common.{◌≡◌, List, [], ◌∷◌, ◌++◌, refl, subst, sym, ◌∙◌, ap, append_assoc}
use Rattle.std.proofs.lemmas.List.{append-nil}
use Rattle.std.proofs.lemmas.List.Sums.{fold-append}
use Rattle.dz_record.specs.Record.{Record}
use Rattle.dz_xfr.specs.declared.fault.ShapeFault.{ShapeFault}
use Rattle.dz_xfr.specs.declared.fault.ShapeFault.TheVariants.{AfterEnd}
use Rattle.dz_xfr.specs.Place.{Place, amid, ended, failed, behind, read, said}
use Rattle.dz_xfr.specs.Stands.{Forms, Blaming, IsComplete, GoesOn, Reading, more, complete, misfit, Stands}
use Rattle.dz_xfr.specs.Stands.{is_complete, after_end, is_front, is_misfit}

-- after a record that doesn't fit nothing is read
pub stays_failed : {X : Type 0} (one : X → Record → Place X) (fault : ShapeFault) (rest : List Record)
    → read one (failed fault) rest ≡ failed fault
stays_failed one fault [] = refl
stays_failed one fault (r ∷ rest) = stays_failed one fault rest

-- two pieces are read like their join
pub read_pieces : {X : Type 0} (one : X → Record → Place X) (place : Place X) (front rest : List Record)
    → read one place (front ++ rest) ≡ read one (read one place front) rest
read_pieces one place front rest = fold-append (behind one) place front rest

-- the end is read only by nothing more
pub ended_alone : {X : Type 0} (one : X → Record → Place X) (zone other rest : List Record)
    → read one (ended zone) rest ≡ ended other → (rest ≡ []) × (zone ≡ other)
ended_alone one zone other [] e = (refl, cc)
ended_alone one zone other (r ∷ rest) e = let f = sym (stays_failed one AfterEnd rest) ∙ e in absurd (cc)

pub failed_not_ended : {X : Type 0} (one : X → Record → Place X) (fault : ShapeFault) (rest zone : List Record)
    → read one (failed fault) rest ≡ ended zone → ⊥
failed_not_ended one fault rest zone e = let f = sym (stays_failed one fault rest) ∙ e in cc

pub ended_not_amid : {X : Type 0} (one : X → Record → Place X) (zone rest : List Record) (x : X)
    → read one (ended zone) rest ≡ amid x → ⊥
ended_not_amid one zone [] x e = cc
ended_not_amid one zone (r ∷ rest) x e = let f = sym (stays_failed one AfterEnd rest) ∙ e in cc

pub failed_not_amid : {X : Type 0} (one : X → Record → Place X) (fault : ShapeFault) (rest : List Record) (x : X)
    → read one (failed fault) rest ≡ amid x → ⊥
failed_not_amid one fault rest x e = let f = sym (stays_failed one fault rest) ∙ e in cc

-- what a form and its reading owe each other: a whole form is read to its end, and what is read to an end is one; from
-- each place that is reached some records lead to an end; a record that doesn't fit is blamed, and for one fault alone
pub record Agrees {X : Type 0} (one : X → Record → Place X) (start : X) (Form : Forms)
    (Blames : Blaming) : Type 0 where
  pub to_end : (records zone : List Record) → Form records zone → read one (amid start) records ≡ ended zone
  pub from_end : (records zone : List Record) → read one (amid start) records ≡ ended zone → Form records zone
  pub leads_on : (records : List Record) (x : X) → read one (amid start) records ≡ amid x
      → (rest : List Record) × (zone : List Record) × (read one (amid x) rest ≡ ended zone)
  pub blame : (records : List Record) (x : X) (r : Record) (fault : ShapeFault)
      → read one (amid start) records ≡ amid x → one x r ≡ failed fault → Blames records r fault
  pub one_fault : (front : List Record) (r : Record) (a b : ShapeFault) → Blames front r a → Blames front r b → a ≡ b

module _ {X : Type 0} (one : X → Record → Place X) (start : X) (Form : Forms) (Blames : Blaming)
    (h : Agrees one start Form Blames) where
  goes_on : (records : List Record) (x : X) → read one (amid start) records ≡ amid x → GoesOn Form records
  goes_on records x e =
      let w = h.leads_on records x e in (
        w.0,
        (
          w.1,
          h.from_end (records ++ w.0) w.1
              (read_pieces one (amid start) records w.0 ∙ (ap (λ p. read one p w.0) e ∙ w.2)),
        ),
      )

  not_whole : (records : List Record) (x : X) → read one (amid start) records ≡ amid x → IsComplete Form records → ⊥
  not_whole records x e f = let g = h.to_end records f.0 f.1 in cc

  stuck : (records : List Record) (fault : ShapeFault) → read one (amid start) records ≡ failed fault
      → GoesOn Form records → ⊥
  stuck records fault e f =
      let g = h.to_end (records ++ f.0) f.1.0 f.1.1 in
      let k = read_pieces one (amid start) records f.0 ∙ (ap (λ p. read one p f.0) e ∙ stays_failed one fault f.0) in
      cc

  -- one record more
  step : (front : List Record) (x : X) (r : Record) → read one (amid start) front ≡ amid x
      → read one (amid start) (front ++ r ∷ []) ≡ one x r
  step front x r e = read_pieces one (amid start) front (r ∷ []) ∙ ap (λ p. read one p (r ∷ [])) e

  misfit_here : (front rest : List Record) (r : Record) (x : X) (g fault : ShapeFault)
      → read one (amid start) front ≡ amid x → one x r ≡ failed g → read one (failed g) rest ≡ failed fault
      → Stands Form Blames (front ++ r ∷ rest) (misfit fault)
  misfit_here front rest r x g fault e q f =
      let k : failed g ≡ failed fault = sym (stays_failed one g rest) ∙ f in
      let same : g ≡ fault = cc in
      is_misfit front rest r refl (goes_on front x e) (not_whole front x e)
      (stuck (front ++ r ∷ []) g (step front x r e ∙ q)) (h.blame front x r fault e (q ∙ ap failed same))

  behind_the_end : (front rest : List Record) (r : Record) (zone : List Record) (fault : ShapeFault)
      → read one (amid start) front ≡ ended zone → read one (failed AfterEnd) rest ≡ failed fault
      → Stands Form Blames (front ++ r ∷ rest) (misfit fault)
  behind_the_end front rest r zone fault e f =
      let k : failed AfterEnd ≡ failed fault = sym (stays_failed one AfterEnd rest) ∙ f in
      let same : AfterEnd ≡ fault = cc in
      subst (λ g. Stands Form Blames (front ++ r ∷ rest) (misfit g)) same
      (after_end front rest r refl (zone, h.from_end front zone e))

  regroup : (front rest : List Record) (r : Record) (fault : ShapeFault)
      → Stands Form Blames ((front ++ r ∷ []) ++ rest) (misfit fault)
      → Stands Form Blames (front ++ r ∷ rest) (misfit fault)
  regroup front rest r fault s = rw append_assoc at s

  -- the first record that doesn't fit, after a prefix that does
  find_misfit : (front rest : List Record) (p : Place X) (fault : ShapeFault) → read one (amid start) front ≡ p
      → ((g : ShapeFault) → p ≡ failed g → ⊥) → read one p rest ≡ failed fault
      → Stands Form Blames (front ++ rest) (misfit fault)
  find_misfit front [] p fault e n f = absurd (n fault f)
  find_misfit front (r ∷ rest) (failed g) fault e n f = absurd (n g refl)
  find_misfit front (r ∷ rest) (ended zone) fault e n f = behind_the_end front rest r zone fault e f
  find_misfit front (r ∷ rest) (amid x) fault e n f =
      (elim (one x r) as (λ p. one x r ≡ p → read one p rest ≡ failed fault
      → Stands Form Blames (front ++ r ∷ rest) (misfit fault)) [
        | amid y ↦ λ q g. regroup front rest r fault
            (find_misfit (front ++ r ∷ []) rest (amid y) fault (step front x r e ∙ q) (λ b k. cc) g)
        | ended zone ↦ λ q g. regroup front rest r fault
            (find_misfit (front ++ r ∷ []) rest (ended zone) fault (step front x r e ∙ q) (λ b k. cc) g)
        | failed b ↦ λ q g. misfit_here front rest r x b fault e q g
      ]) refl f

  at_place : (records : List Record) (p : Place X) → read one (amid start) records ≡ p
      → Stands Form Blames records (said p)
  at_place records (amid x) e = is_front (goes_on records x e) (not_whole records x e)
  at_place records (ended zone) e = is_complete (h.from_end records zone e)
  at_place records (failed fault) e = find_misfit [] records (amid start) fault refl (λ b k. cc) e

  -- what the reading says is what holds
  pub reading_stands : (records : List Record) → Stands Form Blames records (said (read one (amid start) records))
  reading_stands records = at_place records (read one (amid start) records) refl

  -- the beginning of a whole form that is none itself is read amid the form
  front_amid : (front : List Record) (p : Place X) → read one (amid start) front ≡ p → GoesOn Form front
      → ¬ (IsComplete Form front) → (x : X) × (read one (amid start) front ≡ amid x)
  front_amid front (amid x) e g n = (x, e)
  front_amid front (ended zone) e g n = absurd (n (zone, h.from_end front zone e))
  front_amid front (failed fault) e g n = absurd (stuck front fault e g)

  past_end : (front rest : List Record) (r : Record) (zone : List Record) → Form front zone
      → read one (amid start) (front ++ r ∷ rest) ≡ failed AfterEnd
  past_end front rest r zone f =
      read_pieces one (amid start) front (r ∷ rest)
      ∙ (ap (λ p. read one p (r ∷ rest)) (h.to_end front zone f) ∙ stays_failed one AfterEnd rest)

  past_misfit : (front rest : List Record) (r : Record) (x : X) (p : Place X) (fault : ShapeFault)
      → read one (amid start) front ≡ amid x → one x r ≡ p → ¬ (GoesOn Form (front ++ r ∷ [])) → Blames front r fault
      → read one (amid start) (front ++ r ∷ rest) ≡ failed fault
  past_misfit front rest r x p fault e q n b =
      let all : read one (amid start) (front ++ r ∷ rest) ≡ read one (one x r) rest =
      read_pieces one (amid start) front (r ∷ rest) ∙ ap (λ p. read one p (r ∷ rest)) e in
      (elim p as (λ p. one x r ≡ p → read one (amid start) (front ++ r ∷ rest) ≡ failed fault) [
        | amid y ↦ λ q. absurd (n (goes_on (front ++ r ∷ []) y (step front x r e ∙ q)))
        | ended zone ↦ λ q. absurd (n (
          [],
          (
            zone,
            subst (λ l. Form l zone) (sym (append-nil (front ++ r ∷ [])))
                (h.from_end (front ++ r ∷ []) zone (step front x r e ∙ q)),
          ),
        ))
        | failed g ↦ λ q. all ∙ (ap (λ p. read one p rest) q
            ∙ (stays_failed one g rest ∙ ap failed (h.one_fault front r g fault (h.blame front x r g e q) b)))
      ]) q

  -- and nothing else holds
  pub stands_once : (records : List Record) (reading : Reading) → Stands Form Blames records reading
      → reading ≡ said (read one (amid start) records)
  stands_once records (complete zone) (is_complete f) = rw (h.to_end records zone f) refl
  stands_once records more (is_front g n) =
      let w = front_amid records (read one (amid start) records) refl g n in rw w.1 refl
  stands_once records (misfit AfterEnd) (after_end front rest r e f) = rw e (rw (past_end front rest r f.0 f.1) refl)
  stands_once records (misfit fault) (is_misfit front rest r e g n stop b) =
      let w = front_amid front (read one (amid start) front) refl g n in
      rw e (rw (past_misfit front rest r w.0 (one w.0 r) fault w.1 refl stop b) refl)
