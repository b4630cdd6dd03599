-- What a reader answers, and where it stands then, is fixed by its clauses: `value`, `stays` and `bytes`. Assumes nothing.
use Rattle.std.specs.Prelude.{Result, Ok, Err, Option, Some, None, OnErr, option_map, ℕ, ◌≡◌}
use Rattle.std.proofs.Common.{refl, ap, sym, ◌∙◌}
use Rattle.answer.specs.Answer.{Answer, Read, answered, refused}
use Rattle.answer.specs.Refusals.{said_from, said_on}
use Rattle.answer.specs.declared.Refusal.{Refusal}
use Rattle.answer.proofs.OneOutcome.{refusal-back, refusal_in}
use Rattle.field.specs.declared.reader.Reader.{Reader}

-- one answer and one place, and the bytes that there were
one : {A : Type 0} (old : Reader) (r q : Result A Refusal) (m k : Reader) (x : Result A Refusal × ℕ) → x ≡ (r, m.at) → x ≡ (q, k.at) → m.bytes ≡ old.bytes → k.bytes ≡ old.bytes
    → (r ≡ q) × (m ≡ k)
one old r q m k x e f mb kb =
    let p = sym e ∙ f in
    let b = mb ∙ sym kb in
    let a = ap (λ y. y.1) p in
    (ap (λ y. y.0) p, λ i. record { bytes = b i; at = a i })

-- where a value is read back by g from what f says of it
module _ {A B : Type 0} (f : A → B) (g : B → A) (back : (a : A) → g (f a) ≡ a) (x : Read B) (old : Reader) where
  abbrev from_in : Read B → Result A Refusal × ℕ
  from_in (answered y) = (Ok (g y.value), y.next)
  from_in (refused n d) = (Err (refusal_in n d), old.at)

  from-back : (r : Result A Refusal) (m : Reader) → said_from f r m.at ≡ x → OnErr r (m.at ≡ old.at) → from_in x ≡ (r, m.at)
  from-back (Ok a) m e h = ap from_in (sym e) ∙ (λ i. (Ok (back a i), m.at))
  from-back (Err w) m e h = ap from_in (sym e) ∙ (λ i. (Err (refusal-back w i), sym h i))

  pub one_from : (r q : Result A Refusal) (m k : Reader) → (said_from f r m.at ≡ x) × OnErr r (m.at ≡ old.at) × (m.bytes ≡ old.bytes)
      → (said_from f q k.at ≡ x) × OnErr q (k.at ≡ old.at) × (k.bytes ≡ old.bytes) → (r ≡ q) × (m ≡ k)
  one_from r q m k c d = one old r q m k (from_in x) (from-back r m c.0 c.1) (from-back q k d.0 d.1) c.2 d.2

-- the same where only the place is new
module _ (x : Answer ℕ) (old : Reader) where
  abbrev on_in : Answer ℕ → Result Unit Refusal × ℕ
  on_in (answered p) = (Ok tt, p)
  on_in (refused n d) = (Err (refusal_in n d), old.at)

  on-back : (r : Result Unit Refusal) (m : Reader) → said_on r m.at ≡ x → OnErr r (m.at ≡ old.at) → on_in x ≡ (r, m.at)
  on-back (Ok a) m e h = ap on_in (sym e)
  on-back (Err w) m e h = ap on_in (sym e) ∙ (λ i. (Err (refusal-back w i), sym h i))

  pub one_on : (r q : Result Unit Refusal) (m k : Reader) → (said_on r m.at ≡ x) × OnErr r (m.at ≡ old.at) × (m.bytes ≡ old.bytes)
      → (said_on q k.at ≡ x) × OnErr q (k.at ≡ old.at) × (k.bytes ≡ old.bytes) → (r ≡ q) × (m ≡ k)
  one_on r q m k c d = one old r q m k (on_in x) (on-back r m c.0 c.1) (on-back q k d.0 d.1) c.2 d.2

-- what may be absent is read back as what is there is
pub option-back : {A B : Type 0} (f : A → B) (g : B → A) → ((a : A) → g (f a) ≡ a) → (o : Option A) → option_map g (option_map f o) ≡ o
option-back f g back None = refl
option-back f g back (Some a) = ap Some (back a)
