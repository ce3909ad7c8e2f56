-- What the machine is lent in these tables, what is seen of its outcome, and a step of which one piece is another.
use Rattle.std.specs.Prelude.{ℕ, ◌%◌, List, [], ◌∷◌, ◌++◌, eqb, take, drop, replicate}
use Prim.Native.String.{String}
use Rattle.std.proofs.lemmas.List.Edits.{sets}
use Rattle.words.specs.Pick.{pick}
use Rattle.words.specs.Whole.{signed, kept, overflows, spread}
use Rattle.words.specs.Codes.{sign_code, compare_signed, compare_bits, zero_code, mask_code}
use Rattle.words.specs.Combine.{signed_result, carried, logic_of, combine_of, shifted_left, shifted_right}
use Rattle.words.specs.Wide.{product_of, quotient_of, remainder_of, pair_of}
use Rattle.words.specs.SignedShifts.{sign_bit, leftward, rightward, shifted_of}
use Rattle.pages.specs.declared.Access.{Access}
use Rattle.pages.specs.declared.Access.TheVariants.{Load}
use Rattle.pages.specs.Word.{bit_g, bit_u, bit_s, bit_e, bit_m, bit_h, bits_x, frame, page_of, disp_of, next, base, size, real, word_of, accessed, written}
use Rattle.pages.specs.Tests as tests
use Rattle.pages.specs.Look.{reach, look_of}
use Rattle.pages.specs.Framed.{Framed, accessed_at, written_at, read_byte, write_byte}
use Rattle.code.specs.declared.RrFields.{RrFields}
use Rattle.code.specs.declared.RxFields.{RxFields}
use Rattle.code.specs.declared.RsFields.{RsFields}
use Rattle.code.specs.declared.SsFields.{SsFields}
use Rattle.code.specs.Table as code
use Rattle.code.specs.Formats.{op_of, rr_of, rx_of, rs_of, ss_of}
use Rattle.machine.specs.Prog.{Prog, Ops, Answer, finished, refused, done, fail, look, get, put, keeps, after, interp}
use Rattle.machine.specs.Run.{Result, one, run}
use Rattle.machine.specs.Store.{framed}
use Rattle.machine.specs.Fields.{looks, gets, puts, moves, compares, loading, storing, halfword}
use Rattle.machine.specs.Cpu.{Cpu, reg, ahead, part, address}
use Rattle.machine.specs.Pairs.{pair, into_pair}
use Rattle.machine.specs.Branches.{chosen, link, less_one, branch}
use Rattle.machine.specs.Rr.{rr}
use Rattle.machine.specs.Rx.{taken, rx}
use Rattle.machine.specs.Rs.{fills, spills, index_sum, comparand, is_high, shifted_word, shifted_pair, rs}
use Rattle.machine.specs.Si.{si}
use Rattle.machine.specs.Ss.{ss}
use Rattle.machine.specs.Step.{act, known, step}
use Rattle.machine.specs.Machine.{Given, Outcome, given, proper, turned_away, cpu_in, store_in, outcome_of, step_outcome, run_outcome}
use Rattle.slips.specs.Row.{Row, row}

-- the definitions that the tables of machines compute
unfoldable pub computes : Unit {0}
unfolding signed kept overflows spread sign_code compare_signed compare_bits zero_code mask_code signed_result carried logic_of combine_of
    shifted_left shifted_right product_of quotient_of remainder_of pair_of sign_bit leftward rightward shifted_of bit_g bit_u bit_s bit_e bit_m bit_h
    bits_x frame page_of disp_of next base size real word_of accessed written tests.six_tests tests.tests reach look_of
    accessed_at written_at read_byte write_byte code.table code.action_of interp run looks gets puts moves compares loading storing halfword
    reg ahead part address pair into_pair chosen link less_one branch rr taken rx fills spills index_sum comparand is_high shifted_word
    shifted_pair rs si ss act step proper step_outcome run_outcome
computes = tt

-- Memory is one frame, and pages 10 and 11 both lie on it: page 10 with word 3000, page 11 with the word that is said. So what follows
-- page 10's last byte in page 11 is the frame's first byte. These bytes begin the frame, these stand from place 4,080 to its end; these
-- registers, from 0 on; this counter; code and mask zero.
abbrev pub lent : List ℕ → List ℕ → ℕ → List ℕ → ℕ → Given
lent first last word regs pc =
    given (sets (sets (replicate 4096 0) 4080 last) 0 first) (sets (replicate 512 0) 10 (0x3000 ∷ word ∷ []))
    (sets (replicate 16 0) 0 regs)
    pc
    0
    0

-- an instruction at 00A000, and perhaps its operand
abbrev pub lone : List ℕ → List ℕ → Given
lone bytes regs = lent bytes [] 0 regs 0xa000

-- number, place, count, counter, code, mask; every register; the first and the last 16 bytes of memory; the words of pages 10 and 11
abbrev pub seen : Outcome → List ℕ
seen o =
    o.reply.number
    ∷ o.reply.place
    ∷ o.reply.count
    ∷ o.reply.pc
    ∷ o.reply.code
    ∷ o.reply.mask
    ∷ (o.regs ++ take 16 o.mem ++ drop 4080 o.mem ++ take 2 (drop 10 o.map))

-- the door, and behind it this answer
abbrev pub behind_door : (Given → Result Cpu Framed) → Given → Outcome
behind_door answer g = pick (proper g) (outcome_of (answer g)) (turned_away g)

-- one step by this program
abbrev pub step_by : (Cpu → Prog Cpu) → Given → Outcome
step_by program =
    behind_door (λ g. one (cpu_in g) (interp framed (program (cpu_in g)) (store_in g) (store_in g)))

-- the interpreter, but of a look that succeeded a later refusal keeps what `keep` says, and it hands back what `left` makes of that and of
-- the store as it is now
abbrev pub interp_by : {R S : Type 0} → Ops S → (Access → ℕ → S → S) → (S → S → Access → ℕ → S) → Prog R → S → S → Answer R S
interp_by o keep left (done r) kept s = finished r s
interp_by o keep left (fail n a) kept s = refused n a (left kept s Load a)
interp_by o keep left (look acc a k) kept s =
    after (o.looked s acc a) (λ t. interp_by o keep left k (keep acc a kept) t) (o.noted s acc a) a (left kept s acc a)
interp_by o keep left (get a k) kept s = interp_by o keep left (k (o.read s a)) kept s
interp_by o keep left (put a v k) kept s = interp_by o keep left k kept (o.wrote s a v)

-- what is kept is handed back
abbrev pub as_kept : {S : Type 0} → S → S → Access → ℕ → S
as_kept kept s acc a = kept

-- one step by this program, which may leave a trace
abbrev pub step_leaving : (Framed → Framed → Access → ℕ → Framed) → (Cpu → Prog Cpu) → Given → Outcome
step_leaving left program =
    behind_door (λ g. one (cpu_in g) (interp_by framed (λ acc a kept. keeps framed acc a kept) left (program (cpu_in g)) (store_in g) (store_in g)))

-- the machine's step, but operation `op` is this
abbrev pub step_but : ℕ → (ℕ → Cpu → Prog Cpu) → Cpu → Prog Cpu
step_but op program c =
    pick (eqb (c.pc % 2) 1)
    (fail 2 c.pc)
    (halfword c.pc (λ h1. pick (eqb (op_of h1) op) (program h1 c) (known (code.action_of (op_of h1)) h1 c)))

-- an action, with the rest of the instruction fetched as its format has it
abbrev pub as_rr : (RrFields → Cpu → Prog Cpu) → ℕ → Cpu → Prog Cpu
as_rr action h1 c = action (rr_of h1) c

abbrev pub as_rx : (RxFields → Cpu → Prog Cpu) → ℕ → Cpu → Prog Cpu
as_rx action h1 c = halfword (ahead c 2) (λ h2. action (rx_of h1 h2) c)

abbrev pub as_rs : (RsFields → Cpu → Prog Cpu) → ℕ → Cpu → Prog Cpu
as_rs action h1 c = halfword (ahead c 2) (λ h2. action (rs_of h1 h2) c)

abbrev pub as_ss : (SsFields → Cpu → Prog Cpu) → ℕ → Cpu → Prog Cpu
as_ss action h1 c = halfword (ahead c 2) (λ h2. halfword (ahead c 4) (λ h3. action (ss_of h1 h2 h3) c))

-- a row of two steps from the same start: the machine's, and a slipped one
abbrev pub steps : String → (Given → Outcome) → Given → ℕ → ℕ → Row
steps slip slipped g one other = row slip (seen (step_outcome g)) (seen (slipped g)) one other

-- a row of a slip in one operation: `engine::step` has the promise
abbrev pub operation : String → ℕ → (ℕ → Cpu → Prog Cpu) → Given → ℕ → ℕ → Row
operation slip op program g one other = steps slip (step_by (step_but op program)) g one other
