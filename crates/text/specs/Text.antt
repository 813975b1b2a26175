-- 01, "Saved text", and 02, [10]: a text in either form, which is lines of a hart's 43 words.
use Rattle.std.specs.Prelude.{ℕ, Bool, true, false, cond, List, [], ◌∷◌, ◌++◌, eqb, leb, length, drop, replicate, Result, Ok, Err}
use Prim.Native.String.{String}
use Rattle.bits.specs.Same.{same_list}
use Rattle.lines.specs.Lines.{line_of, lines_of, words_in}
use Rattle.text.specs.declared.UnknownForm.{UnknownForm}
use Rattle.text.specs.declared.Form.{Form}
use Rattle.text.specs.declared.Form.TheVariants.{First, Second}

-- the form of a number
abbrev pub form_numbered : ℕ → Result Form UnknownForm
form_numbered n = cond (eqb n 1) (Ok First) (cond (eqb n 2) (Ok Second) (Err (record { 0 = n })))

abbrev pub other : Form → Form
other First = Second
other Second = First

-- 01's 41 lines, in this order
unfoldable pub first_keys : List String
first_keys =
    "mode" ∷ "pc" ∷ "mstatus" ∷ "medeleg" ∷ "mideleg" ∷ "mie" ∷ "mip" ∷ "lines" ∷ "mtvec" ∷ "mcounteren" ∷ "mcountinhibit" ∷ "mscratch" ∷
    "mepc" ∷ "mcause" ∷ "mtval" ∷ "stvec" ∷ "scounteren" ∷ "sscratch" ∷ "sepc" ∷ "scause" ∷ "stval" ∷ "mcycle" ∷ "minstret" ∷ "pmpcfg0" ∷
    "pmpcfg2" ∷ "pmpaddr0" ∷ "pmpaddr1" ∷ "pmpaddr2" ∷ "pmpaddr3" ∷ "pmpaddr4" ∷ "pmpaddr5" ∷ "pmpaddr6" ∷ "pmpaddr7" ∷ "pmpaddr8" ∷
    "pmpaddr9" ∷ "pmpaddr10" ∷ "pmpaddr11" ∷ "pmpaddr12" ∷ "pmpaddr13" ∷ "pmpaddr14" ∷ "pmpaddr15" ∷ []

-- "then 01's 41 lines, then satp and grain"
unfoldable pub keys_of : Form → List String
keys_of First = first_keys
keys_of Second = first_keys ++ "satp" ∷ "grain" ∷ []

-- "the second form begins with a line `form=` and the value 2"
unfoldable pub head_of : Form → List ℕ
head_of First = []
head_of Second = line_of "form" 2

-- the text of a hart's 43 words
unfoldable pub text_of : Form → List ℕ → List ℕ
text_of form ws = head_of form ++ lines_of (keys_of form) 0 ws

-- its bytes
abbrev pub length_of : Form → ℕ
length_of First = 1027
length_of Second = 1094

-- the bytes of its head, and the number of lines behind it
abbrev pub head_length : Form → ℕ
head_length First = 0
head_length Second = 22

abbrev pub line_count : Form → ℕ
line_count First = 41
line_count Second = 43

-- ---- writing

-- the buffer has room for the text
abbrev pub has_room_for : Form → List ℕ → Bool
has_room_for form b = leb (length_of form) (length b)

-- a buffer after writing: bytes past the text are unchanged, and so is a shorter buffer
unfoldable pub written_to : Form → List ℕ → List ℕ → List ℕ
written_to form ws b = cond (has_room_for form b) (text_of form ws ++ drop (length_of form) b) b

-- ---- reading

-- 43 words, from those that the form has lines for: "old texts read as satp 0, G 0"
unfoldable pub completed : Form → List ℕ → List ℕ
completed First ws = ws ++ 0 ∷ 0 ∷ []
completed Second ws = ws

-- the words behind the keys
unfoldable pub words_of_text : Form → List ℕ → List ℕ
words_of_text form t = completed form (words_in (keys_of form) (drop (head_length form) t))

-- a text in the form: it is the text of the words in it
unfoldable pub is_text_of : Form → List ℕ → Bool
is_text_of form t = same_list t (text_of form (words_of_text form t))

-- whether a text is in the form, and the words that are read of it. It is no Option, as words that are not in the form are promised too
pub record Reading : Type 0 where
  pub ok : Bool
  pub words : List ℕ

-- what is read where the text is in the form
abbrev pub read_as : List ℕ → Reading
read_as ws = record { ok = true; words = ws }

-- what is read where it is not, or is longer or shorter than it
abbrev pub no_text : Reading
no_text = record { ok = false; words = replicate 43 0 }

unfoldable pub read_text : Form → List ℕ → Reading
read_text form t = cond (is_text_of form t) (read_as (words_of_text form t)) no_text
