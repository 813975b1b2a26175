-- What is promised of a stream, whatever is read from it: there are pieces, fed in order from the start that was asked for, each with the memory lent, that
-- leave the session handed back, which a failure has too.
use Rattle.std.specs.Prelude.{ℕ, ◌-◌, ◌^◌, ◌≡◌, Bool, true, cond, ◌&&◌, List, [], eqb, length, get_or, Result, Ok, Err, IfOk, IfErr}
use Rattle.paging.specs.Memory.{Memory, memory_at}
use Rattle.memory_text.specs.MemoryText.{is_memory_text, base_in, memory_in}
use Rattle.trace.specs.declared.Session.{Session}
use Rattle.trace.specs.Sessions.{after_piece, after_pieces, reset_session, text_session}
use Rattle.replay_stream.specs.declared.Failed.{Failed}

-- the session that is left, also where reading or writing failed
abbrev pub left : Result Session Failed → Session
left (Ok s) = s
left (Err f) = f.session

-- the pieces are counted up to here, so that every reading ends
abbrev pub most_pieces : ℕ
most_pieces = 2 ^ 64 - 1

-- one piece: it is fed, or reading or writing failed and the session stays
pub record OnePiece (m : Memory) (before : Session) (r : Result Session Failed) : Type 0 where
  pub piece : List ℕ
  pub fed : IfOk r (λ s. s ≡ after_piece m before piece)
  pub kept : IfErr r (λ f. f.session ≡ before)

-- the pieces so far, of such a number
pub record Going (m : Memory) (start here : Session) (number : ℕ) : Type 0 where
  pub pieces : List (List ℕ)
  pub session : here ≡ after_pieces m start pieces
  pub count : length pieces ≡ number

-- unless reading or writing failed, the session has ended, or as many pieces as are counted have been fed
pub record Streamed (m : Memory) (start : Session) (r : Result Session Failed) : Type 0 where
  pub pieces : List (List ℕ)
  pub session : left r ≡ after_pieces m start pieces
  pub ended : IfOk r (λ s. s.more ≡ true → length pieces ≡ most_pieces)

-- ---- files

-- a session that some text gives: the one that was read from the file
pub record Begun (r : Result Session Failed) : Type 0 where
  pub text : List ℕ
  pub session : left r ≡ text_session text

pub record FromFile (m : Memory) (r : Result Session Failed) : Type 0 where
  pub text : List ℕ
  pub streamed : Streamed m (text_session text) r

-- the name `-`, which stands for no file
unfoldable pub is_none : List ℕ → Bool
is_none name = eqb (length name) 1 && eqb (get_or name 0 0) 45

-- START: reset, or what its text gives
abbrev pub start_named : List ℕ → List ℕ → Session
start_named name text = cond (is_none name) reset_session (text_session text)

pub record BegunNamed (name : List ℕ) (r : Result Session Failed) : Type 0 where
  pub text : List ℕ
  pub session : left r ≡ start_named name text

-- 02, [8]: the memory of a text; the name MEMORY stands for no words at address 0, or for the memory of its text
abbrev pub memory_of : List ℕ → Memory
memory_of text = memory_at (memory_in text) (base_in text)

abbrev pub memory_named : List ℕ → List ℕ → Memory
memory_named name text = cond (is_none name) (memory_at [] 0) (memory_of text)

-- what is lent is given by some text in the form
pub record Lending (given : List ℕ → Memory) (start : Session) (r : Result Session Failed) : Type 0 where
  pub text : List ℕ
  pub formed : is_memory_text text ≡ true
  pub streamed : Streamed (given text) start r

pub record FromPaths (start memory : List ℕ) (r : Result Session Failed) : Type 0 where
  pub text : List ℕ
  pub lending : Lending (memory_named memory) (start_named start text) r
