-- Sentences of 01 and 02 that rest on more than one definition hold. Assumes nothing.
use Prim.Native.Nat.{ℕ}
use mathlib.Core.Path.{◌≡◌, refl, ap, ◌∙◌}
use mathlib.Core.List.{List, [], ◌∷◌}
use native.Mathlib.Omega.{arith}
use lib.ListN.{length, take}
use Rattle.bits.specs.Lists.{elements, Words}
use Rattle.bits.proofs.ListLaws.{elements-take}
use Rattle.lines.specs.Lines.{bytes_of, hex_digits, line_of, lines_of}
use Rattle.pmp.specs.declared.Span.{Span}
use Rattle.pmp.specs.Rule.{owner_of}
use Rattle.pmp.proofs.Owner.{owner-bound, owner-matches, below-owner, rule_owners, one_decides}
use Rattle.pmp.proofs.RuleLaws.{beyond-faults}
use Rattle.protection.specs.Configs.{packed}
use Rattle.state.specs.declared.State.{State}
use Rattle.state.specs.Hold.{reset_state}
use Rattle.state.specs.Words.{words_of}
use Rattle.map.proofs.Boundaries.{boundaries}
use Rattle.text.specs.declared.Form.{Form}
use Rattle.text.specs.declared.Form.TheVariants.{First, Second}
use Rattle.text.specs.Text.{first_keys, keys_of, head_of, text_of, line_count, completed, read_as, read_text}
use Rattle.text.proofs.Template.{text-length}
use Rattle.text.proofs.Laws.{read-text, text-read, read-words, refused_none}
use Rattle.hart.specs.Steps.{hart_with}
use Rattle.hart.specs.Saved.{text_for}
use Rattle.claims.specs.SavedLines.{keyed, keyed_second, keyed_text, reset_lines, reset_second, joined}
use Rattle.claims.specs.Consequences.{LowestOwner, Consequences}
use Rattle.claims.proofs.OneValue.{zero-step, zero-readable, misa-step, fixed_step, fixed_writable, satp-illegal, satp-step, lowest-first, config_steps}
use Rattle.claims.proofs.Counting.{mcycle_left, minstret_left, elapsed_counts}
use Rattle.claims.proofs.InterruptOrder.{takes_first}
use Rattle.claims.proofs.OneAccess.{one_load, one_store, one_fetch, access_answered}
use Rattle.claims.proofs.NoAccess.{no_access}
use Rattle.claims.proofs.Deciding.{entry_decides_lem, cause_for_lem, none_decides_lem, effective_mode_lem}
use Rattle.claims.proofs.Querying.{count-read, range_found, range_missing, sizes, lowest-faults, query_one, query_two, one_range, query-beyond}

-- ---- the saved text

saved_lines : (s : State) → text_for First (hart_with s) ≡ keyed_text (keyed s)
unfolding first_keys keys_of head_of lines_of text_of words_of elements
saved_lines s = refl

second-lines : (s : State) → text_for Second (hart_with s) ≡ keyed_text (keyed_second s)
unfolding first_keys keys_of head_of lines_of text_of words_of elements
second-lines s = refl

word_digits : hex_digits 16 0x0123456789ABCDEF ≡ bytes_of "0123456789abcdef"
unfolding bytes_of hex_digits
word_digits = refl

packed-bytes : packed (1 ∷ 2 ∷ 3 ∷ 4 ∷ 5 ∷ 6 ∷ 7 ∷ 8 ∷ []) ≡ 0x0807060504030201
unfolding packed
packed-bytes = refl

reset-text : text_for First (hart_with (reset_state 0)) ≡ joined reset_lines
unfolding bytes_of hex_digits line_of lines_of first_keys keys_of head_of text_of packed words_of elements
reset-text = refl

reset-second : text_for Second (hart_with (reset_state 0)) ≡ joined reset_second
unfolding bytes_of hex_digits line_of lines_of first_keys keys_of head_of text_of packed words_of elements
reset-second = refl

words-taken : (form : Form) (ws : List ℕ) → length ws ≡ 43 → elements (line_count form) 0 ws ≡ take (line_count form) ws
words-taken First ws n = elements-take ws 41 0 (omega arith)
words-taken Second ws n = elements-take ws 43 0 (omega arith)

text-words : (form : Form) (ws : List ℕ) → Words 43 ws → read_text form (text_of form ws) ≡ read_as (completed form (take (line_count form) ws))
text-words form ws w = read-text form ws w ∙ ap (λ (l : List ℕ). read_as (completed form l)) (words-taken form ws w.count)

-- ---- owners

owner : (spans : ℕ → Span) (byte : ℕ) → LowestOwner spans byte (owner_of spans byte)
owner spans byte =
    record {
      bound = omega (arith, owner-bound spans byte);
      matching = owner-matches spans byte;
      lowest = below-owner spans byte;
    }

pub consequences : Consequences
consequences =
    record {
      reads-zero = zero-step;
      readable = zero-readable;
      reads-misa = misa-step;
      reads_configs = λ p. (refl, refl);
      lowest-first = lowest-first;
      packed-bytes = packed-bytes;
      config_steps = config_steps;
      ignores_writes_lem = fixed_step;
      writable = fixed_writable;
      satp-illegal = satp-illegal;
      satp-step = satp-step;
      elapsed_counts = elapsed_counts;
      mcycle_left = mcycle_left;
      minstret_left = minstret_left;
      takes_first = takes_first;
      load = one_load;
      store = one_store;
      fetch = one_fetch;
      access_answers = λ h map m access address size held. access_answered h map m address size held access;
      no_access = no_access;
      beyond = λ spans cfgs mode access address size p h. beyond-faults spans cfgs mode access address size p h ∙ cause_for_lem access 16;
      two_owners = λ spans cfgs mode access address size low byte below t l k other.
          rule_owners spans address size cfgs mode access below
          ∙ lowest-faults cfgs mode access address size (owner_of spans) low byte (omega (arith, owner-bound spans byte)) t l k other;
      one_owner = λ spans cfgs mode access address size o p below owned.
          rule_owners spans address size cfgs mode access below
          ∙ one_decides cfgs mode access address size (owner_of spans) o p
          (omega (arith, owned address (omega arith) (omega arith), owner-bound spans address)) owned;
      entry_decides_lem = entry_decides_lem;
      none_decides_lem = none_decides_lem;
      effective_mode_lem = effective_mode_lem;
      mode_numbers = (refl, refl, refl);
      owner = owner;
      lines = λ s. (saved_lines s, refl, text-length First (words_of s));
      second-lines = λ s. (second-lines s, refl, text-length Second (words_of s));
      digits = word_digits;
      reset-text = reset-text;
      reset-second = reset-second;
      text-read = text-words;
      read-text = λ form text words e. (text-read form text words e, read-words form text words e);
      unread = refused_none;
      compiled-map = λ p. boundaries p.grain p.cfgs p.addrs;
      range_found = range_found;
      range_missing = range_missing;
      query-beyond = λ h map mode access address size held s. query-beyond h map mode access address size held s;
      sizes = sizes;
      query_one = λ h map mode access address size o held s. query_one h map mode access address size held s o;
      query_two = λ h map mode access address size low byte held s. query_two h map mode access address size held s low byte;
      one_range = λ spans h map mode access address size low r held s. one_range h map mode access address size held s spans low r;
      count-read = count-read;
    }
