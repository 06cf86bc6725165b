-- Handing on the octets of a part, one data command at a time.
use Rattle.std.proofs.Common.{◌≡◌, ℕ, ◌+◌, ◌-◌, ◌<◌, ◌≤◌, min, List, [], ◌++◌, length, Ok, Err, sym, refl, ap, ◌∙◌, arith}
use Rattle.std.proofs.lemmas.List.{append_assoc, append-nil, length-append}
use Rattle.tape.specs.declared.fault.TapeFault.{TapeFault}
use Rattle.tape.specs.Reading.{Place, Read, then, data_operands, data_by, part}
use Rattle.tape.proofs.Pieces.{commands_more}
use Rattle.tape.proofs.Takes.{then_is, data_ok}
use Rattle.tape.proofs.Splits.{then_err}

-- octets that were read before
abbrev pub prefixed : List ℕ → Read (List ℕ) → Read (List ℕ)
prefixed xs r = then r (λ ys p. Ok (xs ++ ys, p))

prefixed_twice : (xs ys : List ℕ) (r : Read (List ℕ)) → prefixed xs (prefixed ys r) ≡ prefixed (xs ++ ys) r
prefixed_twice xs ys (Ok r) = ap (λ z. Ok (z, r.1)) (sym (append_assoc xs ys r.0))
prefixed_twice xs ys (Err f) = refl

prefixed_none : (r : Read (List ℕ)) → prefixed [] r ≡ r
prefixed_none (Ok r) = refl
prefixed_none (Err f) = refl

pub part_none : (p : Place) → part 0 p ≡ Ok ([], p)
unfolding part
part_none p = refl

part_step : (count n : ℕ) (p : Place) → 0 < count → n ≡ min 32 count → part count p ≡ then (data_operands n p) (λ xs q. prefixed xs (part (count - 32) q))
unfolding part
part_step count n p h e =
    ap (λ k. data_by k count p) (commands_more count h) ∙ ap (λ k. then (data_operands k p) (λ xs q. prefixed xs (part (count - 32) q))) (sym e)

-- a part of one data command
module _ (count : ℕ) (p : Place) (some : 0 < count) (few : count ≤ 32) where
  pub part_read : (xs : List ℕ) (q : Place) → Ok (xs, q) ≡ data_operands count p → part count p ≡ Ok (xs, q)
  part_read xs q d =
      part_step count count p some (omega arith) ∙ then_is (data_operands count p) _ xs q (sym d) ∙ ap (λ k. prefixed xs (part k q)) (omega arith)
      ∙ ap (prefixed xs) (part_none q) ∙ ap (λ z. Ok (z, q)) (append-nil xs)

  pub part_refused : (f : TapeFault) → Err f ≡ data_operands count p → part count p ≡ Err f
  part_refused f d = part_step count count p some (omega arith) ∙ then_err (data_operands count p) _ f (sym d)

-- a part of which some octets have been handed on, and `left` are still to come
pub record Handing (took : List ℕ → Type 0) (count : ℕ) (p₀ : Place) (left : ℕ) (p : Place) : Type 0 where
  pub handed : List ℕ
  pub read : prefixed handed (part left p) ≡ part count p₀
  pub counted : length handed + left ≡ count
  pub taken : took handed

-- the octets of a data command
pub data_long : (n : ℕ) (p : Place) (ys : List ℕ) (q : Place) → n ≤ 32 → Ok (ys, q) ≡ data_operands n p → length ys ≡ n
data_long n p ys q h e = (data_ok n p ys q h (sym e)).0

module _ (took : List ℕ → Type 0) (count : ℕ) (p₀ : Place) where
  pub handing_start : (left : ℕ) → left ≡ count → took [] → Handing took count p₀ left p₀
  handing_start left e t =
      record { handed = []; read = ap (λ n. prefixed [] (part n p₀)) e ∙ prefixed_none (part count p₀); counted = omega arith; taken = t }

  -- one data command more
  pub handing_more : (more : List ℕ → Type 0) (left left₁ n : ℕ) (p q : Place) (ys : List ℕ) → 0 < left → n ≡ min 32 left → left₁ ≡ left - n → Ok (ys, q) ≡ data_operands n p → ((xs : List ℕ) → length xs + length ys ≤ count → took xs → more (xs ++ ys)) → Handing took count p₀ left p → Handing more count p₀ left₁ q
  handing_more more left left₁ n p q ys h e l d step s =
      let long = data_long n p ys q (omega arith) d in
      let both = length-append s.handed ys in
      let less : left - 32 ≡ left₁ = omega arith in
      let first : part left p ≡ prefixed ys (part left₁ q)
      = part_step left n p h e ∙ then_is (data_operands n p) _ ys q (sym d) ∙ ap (λ k. prefixed ys (part k q)) less in
      record {
        handed = s.handed ++ ys;
        read = sym (prefixed_twice s.handed ys (part left₁ q)) ∙ ap (prefixed s.handed) (sym first) ∙ s.read;
        counted = omega (arith, s.counted);
        taken = step s.handed (omega (arith, s.counted)) s.taken;
      }

  -- a data command that is refused
  pub handing_err : (left n : ℕ) (p : Place) (f : TapeFault) → 0 < left → n ≡ min 32 left → Err f ≡ data_operands n p → Handing took count p₀ left p → part count p₀ ≡ Err f
  handing_err left n p f h e d s =
      sym s.read ∙ ap (prefixed s.handed) (part_step left n p h e ∙ then_err (data_operands n p) _ f (sym d))

  -- all has been handed on
  pub handing_end : (left : ℕ) (p : Place) → left ≡ 0 → Handing took count p₀ left p → (xs : List ℕ) × (part count p₀ ≡ Ok (xs, p)) × took xs
  handing_end left p h s =
      let none : part left p ≡ Ok ([], p) = ap (λ k. part k p) h ∙ part_none p in
      (s.handed, sym s.read ∙ ap (prefixed s.handed) none ∙ ap (λ z. Ok (z, p)) (append-nil s.handed), s.taken)
