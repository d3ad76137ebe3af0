-- What is read of a JSON value: a value, or the first fault that is met. And what a call that reads answers.
use Rattle.std.specs.Prelude.{◌≡◌, List, [], ◌∷◌, ◌++◌, Option, Some, None, Result, Ok, Err}
use Rattle.otel_otlp_read.specs.declared.fault.Fault.{Fault}
use Rattle.otel_otlp_read.specs.declared.fault.ReadError.{ReadError}
use Rattle.otel_otlp_read.specs.declared.fault.ReadError.TheVariants as errors

-- a value, or why it could not be read
abbrev pub Reading : Type 0 → Type 0
Reading A = Result A Fault

-- what is read, and then what comes of it; the first fault ends it
infixl 10 ◌>>=◌
abbrev pub ◌>>=◌ : {A B : Type 0} → Result A Fault → (A → Result B Fault) → Result B Fault
(Ok x) >>= f = f x
(Err fault) >>= f = Err fault

-- a value that is needed: without it, this fault
abbrev pub needed : {A : Type 0} → Fault → Option A → Result A Fault
needed fault None = Err fault
needed fault (Some x) = Ok x

-- an error says the fault that is met, or that memory ran out
abbrev pub Fails : {A : Type 0} → ReadError → Result A Fault → Type 0
Fails errors.OutOfMemory read = Unit {0}
Fails (errors.Fault fault) read = read ≡ Err fault

-- an answer, seen so, is what is read, unless memory ran out
abbrev pub Gives : {X A : Type 0} → (X → A) → Result X ReadError → Result A Fault → Type 0
Gives view (Ok x) read = read ≡ Ok (view x)
Gives view (Err error) read = Fails error read

-- a list, and after it what is read
abbrev pub grown : {A : Type 0} → List A → Result (List A) Fault → Result (List A) Fault
grown front read = read >>= λ more. Ok (front ++ more)

-- what is read of one item after the other, joined
abbrev pub joined : {X A : Type 0} → (X → Result (List A) Fault) → List X → Result (List A) Fault
joined read [] = Ok []
joined read (x ∷ xs) = read x >>= λ first. joined read xs >>= λ others. Ok (first ++ others)

-- a list of one
abbrev pub only : {A : Type 0} → Result A Fault → Result (List A) Fault
only read = read >>= λ x. Ok (x ∷ [])
