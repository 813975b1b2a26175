-- What is promised of reading and writing, whatever the system does: which bytes are read, and what becomes of those that are written, no contract can say.
use Rattle.std.specs.Prelude.{ℕ, ◌≤◌, ◌<◌, ◌≡◌, List, length, Result, IfOk, IfErr}
use Rattle.streams.specs.declared.Incomplete.{Incomplete}

-- no more bytes came than the buffer has, and a full one is no failure
abbrev pub Filled : List ℕ → Result ℕ Incomplete → Type 0
Filled buffer r = IfOk r (λ n. n ≤ length buffer) × IfErr r (λ e. e.count < length buffer)

-- as many bytes as were taken, which are all of them unless writing failed
abbrev pub Written : List ℕ → Result ℕ Incomplete → Type 0
Written bytes r = IfOk r (λ n. n ≡ length bytes) × IfErr r (λ e. e.count < length bytes)
