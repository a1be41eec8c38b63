-- Messages that are written are read back, and their records decide.
use Rattle.std.proofs.Common.{◌≡◌, ℕ, zero, suc, ◌+◌, ◌*◌, ◌<◌, ◌≤◌, ◌^◌, true, false, List, [], ◌∷◌, ◌++◌, length}
use Rattle.std.proofs.Common.{refl, sym, ◌∙◌, ap, arith, append-nil, length-append, Option, None, Some, Ok}
use Rattle.std.specs.Prelude.{flat_map, ◌==◌, nat_lt}
use Rattle.std.specs.List.{All, AllByRecursion}
use Rattle.std.proofs.lemmas.Bool.Decides.{nat_tests}
use Rattle.dz_name.specs.Name.{IsName, same_name}
use Rattle.dz_name.specs.Numbers.{two}
use Rattle.dz_name.specs.Order.{same_decides}
use Rattle.dz_name.specs.Words.{Octets}
use Rattle.dz_name.proofs.NumberLemmas.{length_two}
use Rattle.dz_header.specs.Header.{header_octets}
use Rattle.dz_header.specs.declared.question.Question.{Question}
use Rattle.dz_record.specs.Record.{Record, IsRecord, record_octets}
use Rattle.dz_message.specs.Frame.{frame, stream}
use Rattle.dz_message.specs.Message.{Content}
use Rattle.dz_message.specs.Reading.{message_of}
use Rattle.dz_message.specs.Writing.{IsAsking, question_octets, message_octets}
use Rattle.dz_message.proofs.FrameLemmas.{none_there}
use Rattle.dz_message.proofs.PieceLemmas.{record_size, question_size}
use Rattle.dz_message.proofs.SpellingLemmas.{spells_is}
use Rattle.dz_message.proofs.WrittenLemmas.{message_spells}
use Rattle.dz_take.specs.Form.{form, or_else}
use Rattle.std.proofs.lemmas.Grind.{flat_map-append}
use Rattle.dz_take.specs.Outcome.{answers_in, answers, responds, fits_question, judge, decided_from, outcome}
use Rattle.dz_take.specs.Outcome.{or_incomplete}
use Rattle.dz_take.specs.Transfer.{Transfer, Decision, kind_of}
use Rattle.dz_take.specs.declared.ask.Ask.{Ask}
use Rattle.dz_take.specs.declared.ask.Ask.TheVariants.{Axfr, Ixfr}
use Rattle.dz_take.proofs.LawLemmas.{messages_tell}
use Rattle.dz_gen.specs.Messages.{question, message, response}
use Rattle.dz_gen.proofs.MessageLemmas.{length_header}

-- a record that a zone may hold, with little RDATA
pub record IsSmall (r : Record) : Type 0 where
  pub held : IsRecord r
  pub short : length r.rdata ≤ 1000

pub small_append : (rs more : List Record) → AllByRecursion IsSmall rs → AllByRecursion IsSmall more
    → AllByRecursion IsSmall (rs ++ more)
small_append [] more p q = q
small_append (r ∷ rs) more p q = (p.0, small_append rs more p.1 q)

all_held : (rs : List Record) → AllByRecursion IsSmall rs → All IsRecord rs
all_held [] h k d lt = absurd (omega arith)
all_held (r ∷ rs) h zero d lt = h.0.held
all_held (r ∷ rs) h (suc k) d lt = all_held rs h.1 k d (omega arith)

asked_all : (qs : List Question) → AllByRecursion IsAsking qs → All IsAsking qs
asked_all [] h k d lt = absurd (omega arith)
asked_all (q ∷ qs) h zero d lt = h.0
asked_all (q ∷ qs) h (suc k) d lt = asked_all qs h.1 k d (omega arith)

pub asked_sizes : (qs : List Question) → AllByRecursion IsAsking qs
    → length (flat_map question_octets qs) ≤ 260 * length qs
asked_sizes [] h = omega arith
asked_sizes (q ∷ qs) h = omega (
  arith,
  length-append (question_octets q) (flat_map question_octets qs),
  question_size q,
  h.0.name.short,
  asked_sizes qs h.1,
)

pub sizes : (rs : List Record) → AllByRecursion IsSmall rs → length (flat_map record_octets rs) ≤ 1270 * length rs
sizes [] h = omega arith
sizes (r ∷ rs) h = omega (
  arith,
  length-append (record_octets r) (flat_map record_octets rs),
  record_size r,
  h.0.held.owner.short,
  h.0.short,
  sizes rs h.1,
)

asks_number : (ask : Ask) → kind_of ask < 2 ^ 16
asks_number Axfr = omega arith
asks_number Ixfr = omega arith

pub same_number : (n : ℕ) → (n == n) ≡ true
same_number n = grind (arith, nat_tests)

-- a response with a question or none, and some small records
module _ (t : Transfer) (small : t.id < 2 ^ 16) (qs : List Question) (asking : AllByRecursion IsAsking qs)
    (single : length qs ≤ 1)
    (rs : List Record) (held : AllByRecursion IsSmall rs) (few : length rs ≤ 20) where
  abbrev content : Content
  content = message t.id 33792 qs rs

  abbrev octets : Octets
  octets = message_octets content

  read_back : message_of octets ≡ Ok content
  read_back = spells_is octets content (message_spells content refl (record {
    header = record {
      id = small;
      flags = omega arith;
      counts = (
        omega arith,
        (
          omega arith,
          (
            omega arith,
            (omega arith, tt),
          ),
        ),
      );
    };
    questions = asked_all qs asking;
    answers = all_held rs held;
  }))

  pub fits : length octets ≤ 30000
  unfolding message_octets
  fits = omega (
    arith,
    length-append (header_octets content.header) (flat_map question_octets qs ++ flat_map record_octets rs),
    length_header t.id 33792 (length qs) (length rs) 0 0,
    length-append (flat_map question_octets qs) (flat_map record_octets rs),
    asked_sizes qs asking,
    sizes rs held,
  )

  pub judged : (front : List Octets) → length (stream (front ++ octets ∷ [])) ≤ 67108864
      → fits_question t (length front == 0) qs ≡ true → judge t front octets ≡ form t (answers front ++ rs)
  unfolding judge
  judged front short question_fits =
      let room : nat_lt 67108864 (length (stream (front ++ octets ∷ []))) ≡ false = grind (arith, nat_tests) in
      let same : responds t.id content ≡ true = rw (same_number t.id) refl in
      rw (room, read_back, same, question_fits) refl

  pub answered : (front : List Octets) → answers (front ++ octets ∷ []) ≡ answers front ++ rs
  unfolding answers answers_in
  answered front =
      flat_map-append answers_in front (octets ∷ [])
      ∙ ap (λ xs. flat_map answers_in front ++ xs) (append-nil _ ∙ (rw read_back refl))

pub frame_size : (octets : Octets) → length (frame octets) ≡ 2 + length octets
frame_size octets = omega (arith, length-append (two (length octets)) octets, length_two (length octets))

or_nothing : (o : Option Decision) → or_else o None ≡ o
or_nothing None = refl
or_nothing (Some x) = refl

-- one response with the question decides by its records
module _ (t : Transfer) (named : IsName t.apex) (small : t.id < 2 ^ 16) (rs : List Record)
    (held : AllByRecursion IsSmall rs) (few : length rs ≤ 20) where
  abbrev asked : Question
  asked = question t.apex (kind_of t.ask)

  abbrev all_octets : Octets
  all_octets = message_octets (message t.id 33792 (asked ∷ []) rs)

  pub asks : AllByRecursion IsAsking (asked ∷ [])
  asks = (record { name = named; kind = asks_number t.ask; class = omega arith }, tt)

  pub question_is : fits_question t true (asked ∷ []) ≡ true
  question_is =
      let itself : same_name t.apex t.apex ≡ true = (same_decides t.apex t.apex).1 refl in
      rw (itself, same_number (kind_of t.ask)) refl

  judged_alone : judge t [] all_octets ≡ form t rs
  unfolding answers
  judged_alone =
      let n = fits t small (asked ∷ []) asks (omega arith) rs held few in
      judged t small (asked ∷ []) asks (omega arith) rs held few []
      (omega (arith, length-append (frame all_octets) [], frame_size all_octets)) question_is

  pub one_decides : outcome t (response t.id (asked ∷ []) rs) ≡ or_incomplete (form t rs)
  unfolding decided_from
  one_decides =
      let n = fits t small (asked ∷ []) asks (omega arith) rs held few in
      let whole : (stream (all_octets ∷ []) ++ []) ≡ frame all_octets = append-nil (stream (all_octets ∷ []))
      ∙ append-nil (frame all_octets) in
      ap (outcome t) (sym whole)
      ∙ (messages_tell t (all_octets ∷ []) [] (omega (arith, n), tt) none_there
      ∙ ap or_incomplete (or_nothing (judge t [] all_octets) ∙ judged_alone))
