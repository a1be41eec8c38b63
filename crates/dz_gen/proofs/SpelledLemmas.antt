-- The names of zones, label by label.
use Rattle.std.proofs.Common.{◌≡◌, ℕ, zero, suc, ◌<◌, ◌≤◌, false, [], ◌∷◌, ◌++◌, length, drop, refl, ◌∙◌, ap, arith}
use Rattle.std.proofs.Common.{length-append, length-drop, Ok}
use Rattle.std.specs.Prelude.{◌==◌, codes, decimal}
use Rattle.std.specs.Char.{to_ascii_lowercase}
use Rattle.std.proofs.lemmas.Bool.Decides.{nat_tests}
use Rattle.std.proofs.lemmas.Fmt.{length-decimal-le}
use Rattle.dz_name.specs.Name.{wire_of}
use Rattle.dz_name.specs.Text.{items, with_label, labels_from, name_of_text}
use Rattle.dz_name.specs.Words.{Octets}
use Rattle.dz_gen.specs.Texts.{digits, numbered, named, name_or_root, IsSpelled}
use Rattle.dz_gen.specs.Records.{zone, www}
use Rattle.dz_gen.proofs.DecimalLemmas.{IsDigit, AreDigits, digits-append, digits_from_test, number_spelled}

-- four digits
pub record IsFour (text : Octets) : Type 0 where
  pub a : ℕ
  pub b : ℕ
  pub c : ℕ
  pub d : ℕ
  pub are : text ≡ a ∷ b ∷ c ∷ d ∷ []
  pub digits : AreDigits (a ∷ b ∷ c ∷ d ∷ [])

four_of : (text : Octets) → length text ≡ 4 → AreDigits text → IsFour text
four_of [] n p = absurd (omega arith)
four_of (a ∷ []) n p = absurd (omega arith)
four_of (a ∷ b ∷ []) n p = absurd (omega arith)
four_of (a ∷ b ∷ c ∷ []) n p = absurd (omega arith)
four_of (a ∷ b ∷ c ∷ d ∷ []) n p = record { a = a; b = b; c = c; d = d; are = refl; digits = p }
four_of (a ∷ b ∷ c ∷ d ∷ e ∷ text) n p = absurd (omega arith)

digits-drop : (n : ℕ) (text : Octets) → AreDigits text → AreDigits (drop n text)
digits-drop zero text p = p
digits-drop (suc n) [] p = tt
digits-drop (suc n) (c ∷ text) p = digits-drop n text p.1

pub four_digits : (k : ℕ) → 0 < k → k ≤ 1000 → IsFour (digits k)
four_digits k some few =
    let size : length (decimal k) ≤ 4 = length-decimal-le 4 k (omega arith) (omega arith) (omega arith) in
    let zeros : Octets = codes "0000" in
    four_of (digits k)
    (omega (
      arith,
      size,
      length-append (drop (length (decimal k)) zeros) (decimal k),
      length-drop (length (decimal k)) zeros,
    ))
    (digits-append (drop (length (decimal k)) zeros) (decimal k) (digits-drop (length (decimal k)) zeros
    (digits_from_test zeros refl))
    (number_spelled k some (omega arith)).digits)

pub lower_digit : (c : ℕ) → IsDigit c → to_ascii_lowercase c ≡ c
lower_digit c p = let low = p.0 in let high = p.1 in grind (arith, nat_tests)

no_escape : (c : ℕ) → IsDigit c → (c == 92) ≡ false
no_escape c p = let low = p.0 in let high = p.1 in grind (arith, nat_tests)

no_dot : (c : ℕ) → IsDigit c → (c == 46) ≡ false
no_dot c p = let low = p.0 in let high = p.1 in grind (arith, nat_tests)

module _ (a b c d : ℕ) (p : AreDigits (a ∷ b ∷ c ∷ d ∷ [])) where
  abbrev text : Octets → Octets → Octets
  text before behind = before ++ ((a ∷ b ∷ c ∷ d ∷ []) ++ behind)

  zone_reads : name_of_text (text (codes "z") (codes ".test.")) ≡ Ok ((122 ∷ a ∷ b ∷ c ∷ d ∷ []) ∷ codes "test" ∷ [])
  unfolding name_of_text items labels_from with_label wire_of
  zone_reads =
      rw (
        no_escape a p.0,
        no_escape b p.1.0,
        no_escape c p.1.1.0,
        no_escape d p.1.1.1.0,
        no_dot a p.0,
        no_dot b p.1.0,
        no_dot c p.1.1.0,
        no_dot d p.1.1.1.0,
        lower_digit a p.0,
        lower_digit b p.1.0,
        lower_digit c p.1.1.0,
        lower_digit d p.1.1.1.0,
      ) refl

  zone_spelled : named (text (codes "z") (codes ".test."))
      ≡ (122 ∷ a ∷ b ∷ c ∷ d ∷ []) ∷ codes "test" ∷ []
  zone_spelled = ap name_or_root zone_reads

  www_reads : name_of_text (text (codes "www.z") (codes ".test."))
      ≡ Ok (codes "www" ∷ (122 ∷ a ∷ b ∷ c ∷ d ∷ []) ∷ codes "test" ∷ [])
  unfolding name_of_text items labels_from with_label wire_of
  www_reads =
      rw (
        no_escape a p.0,
        no_escape b p.1.0,
        no_escape c p.1.1.0,
        no_escape d p.1.1.1.0,
        no_dot a p.0,
        no_dot b p.1.0,
        no_dot c p.1.1.0,
        no_dot d p.1.1.1.0,
        lower_digit a p.0,
        lower_digit b p.1.0,
        lower_digit c p.1.1.0,
        lower_digit d p.1.1.1.0,
      ) refl

  www_spelled : named (text (codes "www.z") (codes ".test."))
      ≡ codes "www" ∷ (122 ∷ a ∷ b ∷ c ∷ d ∷ []) ∷ codes "test" ∷ []
  www_spelled = ap name_or_root www_reads

  mail_reads : name_of_text (text (codes "mail.z") (codes ".test."))
      ≡ Ok (codes "mail" ∷ (122 ∷ a ∷ b ∷ c ∷ d ∷ []) ∷ codes "test" ∷ [])
  unfolding name_of_text items labels_from with_label wire_of
  mail_reads =
      rw (
        no_escape a p.0,
        no_escape b p.1.0,
        no_escape c p.1.1.0,
        no_escape d p.1.1.1.0,
        no_dot a p.0,
        no_dot b p.1.0,
        no_dot c p.1.1.0,
        no_dot d p.1.1.1.0,
        lower_digit a p.0,
        lower_digit b p.1.0,
        lower_digit c p.1.1.0,
        lower_digit d p.1.1.1.0,
      ) refl

  mail_spelled : named (text (codes "mail.z") (codes ".test."))
      ≡ codes "mail" ∷ (122 ∷ a ∷ b ∷ c ∷ d ∷ []) ∷ codes "test" ∷ []
  mail_spelled = ap name_or_root mail_reads

  node_reads : name_of_text (text (codes "m") (codes ".zones.cat.test."))
      ≡ Ok ((109 ∷ a ∷ b ∷ c ∷ d ∷ []) ∷ codes "zones" ∷ codes "cat" ∷ codes "test" ∷ [])
  unfolding name_of_text items labels_from with_label wire_of
  node_reads =
      rw (
        no_escape a p.0,
        no_escape b p.1.0,
        no_escape c p.1.1.0,
        no_escape d p.1.1.1.0,
        no_dot a p.0,
        no_dot b p.1.0,
        no_dot c p.1.1.0,
        no_dot d p.1.1.1.0,
        lower_digit a p.0,
        lower_digit b p.1.0,
        lower_digit c p.1.1.0,
        lower_digit d p.1.1.1.0,
      ) refl

  node_spelled : named (text (codes "m") (codes ".zones.cat.test."))
      ≡ (109 ∷ a ∷ b ∷ c ∷ d ∷ []) ∷ codes "zones" ∷ codes "cat" ∷ codes "test" ∷ []
  node_spelled = ap name_or_root node_reads

  moved_reads : name_of_text (text (codes "r") (codes ".zones.cat.test."))
      ≡ Ok ((114 ∷ a ∷ b ∷ c ∷ d ∷ []) ∷ codes "zones" ∷ codes "cat" ∷ codes "test" ∷ [])
  unfolding name_of_text items labels_from with_label wire_of
  moved_reads =
      rw (
        no_escape a p.0,
        no_escape b p.1.0,
        no_escape c p.1.1.0,
        no_escape d p.1.1.1.0,
        no_dot a p.0,
        no_dot b p.1.0,
        no_dot c p.1.1.0,
        no_dot d p.1.1.1.0,
        lower_digit a p.0,
        lower_digit b p.1.0,
        lower_digit c p.1.1.0,
        lower_digit d p.1.1.1.0,
      ) refl

  moved_spelled : named (text (codes "r") (codes ".zones.cat.test."))
      ≡ (114 ∷ a ∷ b ∷ c ∷ d ∷ []) ∷ codes "zones" ∷ codes "cat" ∷ codes "test" ∷ []
  moved_spelled = ap name_or_root moved_reads

  group_reads : name_of_text (text (codes "group.m") (codes ".zones.cat.test."))
      ≡ Ok (codes "group" ∷ (109 ∷ a ∷ b ∷ c ∷ d ∷ []) ∷ codes "zones" ∷ codes "cat" ∷ codes "test" ∷ [])
  unfolding name_of_text items labels_from with_label wire_of
  group_reads =
      rw (
        no_escape a p.0,
        no_escape b p.1.0,
        no_escape c p.1.1.0,
        no_escape d p.1.1.1.0,
        no_dot a p.0,
        no_dot b p.1.0,
        no_dot c p.1.1.0,
        no_dot d p.1.1.1.0,
        lower_digit a p.0,
        lower_digit b p.1.0,
        lower_digit c p.1.1.0,
        lower_digit d p.1.1.1.0,
      ) refl

  group_spelled : named (text (codes "group.m") (codes ".zones.cat.test."))
      ≡ codes "group" ∷ (109 ∷ a ∷ b ∷ c ∷ d ∷ []) ∷ codes "zones" ∷ codes "cat" ∷ codes "test" ∷ []
  group_spelled = ap name_or_root group_reads

pub zone_is : (k : ℕ) (f : IsFour (digits k)) → zone k ≡ (122 ∷ f.a ∷ f.b ∷ f.c ∷ f.d ∷ []) ∷ codes "test" ∷ []
zone_is k f = ap (λ ds. named (codes "z" ++ (ds ++ codes ".test."))) f.are ∙ zone_spelled f.a f.b f.c f.d f.digits

pub www_is : (k : ℕ) (f : IsFour (digits k)) → www k
    ≡ codes "www" ∷ (122 ∷ f.a ∷ f.b ∷ f.c ∷ f.d ∷ []) ∷ codes "test" ∷ []
www_is k f = ap (λ ds. named (codes "www.z" ++ (ds ++ codes ".test."))) f.are ∙ www_spelled f.a f.b f.c f.d f.digits

pub mail_is : (k : ℕ) (f : IsFour (digits k)) → named (numbered (codes "mail.z") k (codes ".test."))
    ≡ codes "mail" ∷ (122 ∷ f.a ∷ f.b ∷ f.c ∷ f.d ∷ []) ∷ codes "test" ∷ []
mail_is k f = ap (λ ds. named (codes "mail.z" ++ (ds ++ codes ".test."))) f.are
    ∙ mail_spelled f.a f.b f.c f.d f.digits

pub node_is : (k : ℕ) (f : IsFour (digits k)) → named (numbered (codes "m") k (codes ".zones.cat.test."))
    ≡ (109 ∷ f.a ∷ f.b ∷ f.c ∷ f.d ∷ []) ∷ codes "zones" ∷ codes "cat" ∷ codes "test" ∷ []
node_is k f = ap (λ ds. named (codes "m" ++ (ds ++ codes ".zones.cat.test."))) f.are
    ∙ node_spelled f.a f.b f.c f.d f.digits

pub moved_is : (k : ℕ) (f : IsFour (digits k)) → named (numbered (codes "r") k (codes ".zones.cat.test."))
    ≡ (114 ∷ f.a ∷ f.b ∷ f.c ∷ f.d ∷ []) ∷ codes "zones" ∷ codes "cat" ∷ codes "test" ∷ []
moved_is k f = ap (λ ds. named (codes "r" ++ (ds ++ codes ".zones.cat.test."))) f.are
    ∙ moved_spelled f.a f.b f.c f.d f.digits

pub group_is : (k : ℕ) (f : IsFour (digits k)) → named (numbered (codes "group.m") k (codes ".zones.cat.test."))
    ≡ codes "group" ∷ (109 ∷ f.a ∷ f.b ∷ f.c ∷ f.d ∷ []) ∷ codes "zones" ∷ codes "cat" ∷ codes "test" ∷ []
group_is k f = ap (λ ds. named (codes "group.m" ++ (ds ++ codes ".zones.cat.test."))) f.are
    ∙ group_spelled f.a f.b f.c f.d f.digits

-- ---- each of these texts is a name
pub zone_text : (k : ℕ) → 0 < k → k ≤ 1000 → IsSpelled (numbered (codes "z") k (codes ".test."))
zone_text k some few =
    let f : IsFour (digits k) = four_digits k some few in (
      _,
      ap (λ ds. name_of_text (codes "z" ++ (ds ++ codes ".test."))) f.are
          ∙ zone_reads f.a f.b f.c f.d f.digits,
    )

pub www_text : (k : ℕ) → 0 < k → k ≤ 1000 → IsSpelled (numbered (codes "www.z") k (codes ".test."))
www_text k some few =
    let f : IsFour (digits k) = four_digits k some few in (
      _,
      ap (λ ds. name_of_text (codes "www.z" ++ (ds ++ codes ".test."))) f.are
          ∙ www_reads f.a f.b f.c f.d f.digits,
    )

pub mail_text : (k : ℕ) → 0 < k → k ≤ 1000 → IsSpelled (numbered (codes "mail.z") k (codes ".test."))
mail_text k some few =
    let f : IsFour (digits k) = four_digits k some few in (
      _,
      ap (λ ds. name_of_text (codes "mail.z" ++ (ds ++ codes ".test."))) f.are
          ∙ mail_reads f.a f.b f.c f.d f.digits,
    )

pub node_text : (k : ℕ) → 0 < k → k ≤ 1000 → IsSpelled (numbered (codes "m") k (codes ".zones.cat.test."))
node_text k some few =
    let f : IsFour (digits k) = four_digits k some few in (
      _,
      ap (λ ds. name_of_text (codes "m" ++ (ds ++ codes ".zones.cat.test."))) f.are
          ∙ node_reads f.a f.b f.c f.d f.digits,
    )

pub moved_text : (k : ℕ) → 0 < k → k ≤ 1000 → IsSpelled (numbered (codes "r") k (codes ".zones.cat.test."))
moved_text k some few =
    let f : IsFour (digits k) = four_digits k some few in (
      _,
      ap (λ ds. name_of_text (codes "r" ++ (ds ++ codes ".zones.cat.test."))) f.are
          ∙ moved_reads f.a f.b f.c f.d f.digits,
    )

pub group_text : (k : ℕ) → 0 < k → k ≤ 1000 → IsSpelled (numbered (codes "group.m") k (codes ".zones.cat.test."))
group_text k some few =
    let f : IsFour (digits k) = four_digits k some few in (
      _,
      ap (λ ds. name_of_text (codes "group.m" ++ (ds ++ codes ".zones.cat.test."))) f.are
          ∙ group_reads f.a f.b f.c f.d f.digits,
    )
