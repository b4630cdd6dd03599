-- What it is that a function is tied to a promise. The words are the toolchain's own, with which it states every function's theorem.
use Rattle.std.specs.Prelude.{◌≡◌, List, [], ◌∷◌}
use seplogic.Ra.Ura.{Ura}
use base.Logic.{SProp}
use prog.Memory.{Memory}
use prog.Routine.{Routine}
use prog.Model.{Model}
use prog.Wired.{Code, Wired}
use mir.Syntax.{Callee}
use types.Logic.{Logic}
use contract.Monad.{Fun}
use contract.Lifetimes.{Lfts}
use contract.Running.{Running}
use contract.Notation.{connectives}
use denote.Triple.Entry.{Args, Res}
use denote.Triple.Clauses.{Ended, AtExit, Clauses, closing}
use denote.Triple.Spec.{Meets}

-- what a function with this signature promises of its arguments, its result, and its arguments at exit: a fact for each clause of its contract
abbrev pub Promise : Ended → Type 1
Promise E = (κs : Lfts E.signature.lifetimes) → Args E.signature κs → Res E.signature κs → AtExit E κs → List (Type 0)

-- the facts as one assertion, as the toolchain joins clauses
abbrev pub as_one : {M : Type 1} (𝓤 : Ura M) → List (Type 0) → SProp 𝓤
as_one 𝓤 [] = (connectives 𝓤).⊤ₛ
as_one 𝓤 (P ∷ []) = (connectives 𝓤).⌜◌⌝ P
as_one 𝓤 (P ∷ Q ∷ Ps) = (connectives 𝓤).◌∗◌ ((connectives 𝓤).⌜◌⌝ P) (as_one 𝓤 (Q ∷ Ps))

-- the promise as the clauses of a contract: nothing is asked of the caller, and it holds when the function returns
abbrev pub promised : {M : Type 1} (𝓤 : Ura M) (E : Ended) → Promise E → Clauses 𝓤 E
promised 𝓤 E P κs a = record {
  ghost = Unit {0};
  requires = λ g. (connectives 𝓤).⊤ₛ;
  ensures = λ g r e. as_one 𝓤 (P κs a r e);
}

-- the clauses that a source has, over every model of resources, memory and code
abbrev pub Source : Ended → Type 2
Source E = (M : Type 1) (𝓤 : Ura M) → Logic 𝓤 → (Memory → SProp 𝓤) → (Routine → Fun 𝓤) → Clauses 𝓤 E

-- a function, by its signature, the clauses of its source, its name and its code, is tied to the promise P
pub record Tie (E : Ended) (clauses : Source E) (name : Callee) (code : Code) (P : Promise E) : Type 2 where
  -- its clauses are the promise, and no others
  pub says : (M : Type 1) (𝓤 : Ura M) (𝓛 : Logic 𝓤) (mem : Memory → SProp 𝓤) (run : Routine → Fun 𝓤) → clauses M 𝓤 𝓛 mem run ≡ promised 𝓤 E P
  -- and wherever its name stands for its code, whatever it is called with, it returns, and the promise holds
  pub meets : (M : Type 1) (𝓤 : Ura M) (𝓛 : Logic 𝓤) (𝓜 : Model 𝓤 𝓛.H) (𝓡 : Running 𝓤 𝓛.H 𝓜)
      → Wired 𝓡.env code → Meets 𝓛 E.signature (𝓡.run (𝓡.env name)) (closing 𝓛 E (promised 𝓤 E P))

-- Of a generic function nothing is asked but that its type outlives the call.
abbrev pub Lives : Ended → Type 1
Lives E = Lfts E.signature.lifetimes → Type 0

abbrev pub promised_over : {M : Type 1} (𝓤 : Ura M) (E : Ended) → Lives E → Promise E → Clauses 𝓤 E
promised_over 𝓤 E L P κs a = record {
  ghost = Unit {0};
  requires = λ g. (connectives 𝓤).◌∗◌ ((connectives 𝓤).⌜◌⌝ (L κs)) (connectives 𝓤).⊤ₛ;
  ensures = λ g r e. as_one 𝓤 (P κs a r e);
}

-- a generic function, at a type and what its bounds say of it, is tied to the promise P; `theorem` is the toolchain's statement that it meets its clauses
pub record TieOver (E : Ended) (clauses : Source E) (theorem : Type 1 → Type 2) (L : Lives E) (P : Promise E) : Type 2 where
  pub says : (M : Type 1) (𝓤 : Ura M) (𝓛 : Logic 𝓤) (mem : Memory → SProp 𝓤) (run : Routine → Fun 𝓤) → clauses M 𝓤 𝓛 mem run ≡ promised_over 𝓤 E L P
  pub meets : (M : Type 1) → theorem M
