-- Slips of a run that has a quick loop beside the plain step, and of the seam between the two. The loop does whole instructions in a page
-- that has its G, on pages that have their marks, and knows an instruction by its real address; whatever else comes up is left to the plain
-- step. All are of `engine::run`.
use Rattle.std.specs.Prelude.{ℕ, zero, suc, ◌+◌, ◌-◌, ◌*◌, ◌/◌, Bool, true, List, [], ◌∷◌, ◌++◌, eqb, leb, ltb, get_or, set, replicate}
use Prim.Native.String.{String}
use Rattle.std.proofs.lemmas.List.Edits.{sets}
use Rattle.words.specs.Pick.{pick, both}
use Rattle.pages.specs.declared.Access.{Access}
use Rattle.pages.specs.declared.Access.TheVariants.{Fetch, Load, Store}
use Rattle.pages.specs.Word.{bit_g, page_of, disp_of, real, word_of}
use Rattle.pages.specs.Tests.{fine}
use Rattle.pages.specs.Framed.{Framed, framed_of, noted, read_byte, write_byte}
use Rattle.code.specs.declared.Branch.TheVariants.{OnCount}
use Rattle.code.specs.declared.RxFields.{RxFields}
use Rattle.code.specs.Table.{action_of}
use Rattle.code.specs.Formats.{op_of, rs_of}
use Rattle.machine.specs.Prog.{Prog, Ops, Answer, finished, refused, done, interp}
use Rattle.machine.specs.Run.{Result, one_more, after_step, run}
use Rattle.machine.specs.Store.{framed}
use Rattle.machine.specs.Fields.{gets, halfword}
use Rattle.machine.specs.Cpu.{Cpu, reg, with_reg, with_pc, ahead}
use Rattle.machine.specs.Branches.{less_one, branch}
use Rattle.machine.specs.Rx.{rx_address}
use Rattle.machine.specs.Rs.{rs_address}
use Rattle.machine.specs.Step.{known, step}
use Rattle.machine.specs.Machine.{Given, given, cpu_in, store_in, ops_for, run_outcome}
use Rattle.slips.specs.Row.{Row, row}
use Rattle.slips.specs.Seen.{lent, lone, behind_door, step_but, as_rx, seen}

-- a way to run: the budget, the state and the store
abbrev Way : Type 0
Way = ℕ → Cpu → Framed → Result Cpu Framed

-- the framed store, but marks are noted in this way
abbrev noting : (Framed → Access → ℕ → Framed) → Ops Framed
noting note =
    record { looked = framed.looked; noted = note; read = framed.read; wrote = framed.wrote }

-- an operand that is loaded leaves its page without G; an instruction that is fetched, likewise
abbrev loads_bare : Framed → Access → ℕ → Framed
loads_bare s Fetch a = noted s a
loads_bare s Load a = s
loads_bare s Store a = noted s a

abbrev fetches_bare : Framed → Access → ℕ → Framed
fetches_bare s Fetch a = s
fetches_bare s Load a = noted s a
fetches_bare s Store a = noted s a

-- a store leaves its page without W
abbrev stores_bare : Ops Framed
stores_bare =
    record {
      looked = framed.looked;
      noted = framed.noted;
      read = framed.read;
      wrote = λ s a v. framed_of (write_byte s a v).mem s.map;
    }

-- the page of this address has its G
abbrev marked : Framed → ℕ → Bool
marked s a = eqb (bit_g (word_of s.map (page_of a))) 1

-- a page that has its G is taken for one that is open to any access
abbrev trusting : Ops Framed
trusting =
    record {
      looked = λ s acc a. pick (marked s a) fine (framed.looked s acc a);
      noted = framed.noted;
      read = framed.read;
      wrote = framed.wrote;
    }

-- the six bytes from the counter on are read thus, all others as they should be
abbrev reading : (Framed → ℕ → ℕ) → Cpu → Ops Framed
reading text c =
    record {
      looked = framed.looked;
      noted = framed.noted;
      read = λ s a. pick (both (leb c.pc a) (ltb a (c.pc + 6))) (text s a) (read_byte s a);
      wrote = framed.wrote;
    }

-- an instruction read straight on in memory from where its first byte lies
abbrev straight_on : Cpu → Framed → ℕ → ℕ
straight_on c s a = get_or s.mem (real (word_of s.map (page_of c.pc)) (disp_of c.pc) + (a - c.pc)) 0

-- a run that reads the next instruction as `on` makes of the state before, the state after and the store before
abbrev chained : (Cpu → Cpu → Framed → Framed → ℕ → ℕ) → (Framed → ℕ → ℕ) → Way
chained on text zero c s = run ops_for step 0 c s
chained on text (suc b) c s =
    after_step c (interp (reading text c) (step c) s s) (λ c' s'. chained on (on c c' s) b c' s')

-- after a branch the counter itself is taken for the real address
abbrev counter_as_place : Cpu → Cpu → Framed → Framed → ℕ → ℕ
counter_as_place c c' before s a =
    pick (both (ltb c.pc c'.pc) (leb c'.pc (c.pc + 6))) (read_byte s a) (get_or s.mem a 0)

-- the next instruction is read before the one in hand has stored
abbrev read_ahead : Cpu → Cpu → Framed → Framed → ℕ → ℕ
read_ahead c c' before s a = read_byte before a

-- an odd counter rounded, and gone on with
abbrev rounded : Cpu → Prog Cpu
rounded c = step (with_pc c (c.pc / 2 * 2))

abbrev odd_too : Cpu → Prog Cpu
odd_too c = halfword c.pc (λ h1. known (action_of (op_of h1)) h1 c)

-- the quick loop: at most b whole instructions, as long as the counter's page has its G; one that would be refused is left undone
abbrev quick : Way
quick zero c s = run ops_for step 0 c s
quick (suc b) c s = pick (marked s c.pc) (whole (interp framed (step c) s s) (λ c' s'. quick b c' s')) (run ops_for step 0 c s)
  where
    whole : Answer Cpu Framed → (Cpu → Framed → Result Cpu Framed) → Result Cpu Framed
    whole (finished c' s') go = one_more (go c' s')
    whole (refused n a t) go = run ops_for step 0 c s

-- The quick loop and a plain step, in turn, at most n times. By the budget and by how many instructions the quick loop did, `over` says
-- whether the run is over, and `counted` how many these were; `handed` says in what state the plain step begins, by the one that the quick
-- loop began in and the one that it ended in.
abbrev joined : (ℕ → ℕ → Bool) → (ℕ → ℕ) → (Cpu → Cpu → Cpu) → ℕ → Way
joined over counted handed zero b c s = run ops_for step 0 c s
joined over counted handed (suc n) b c s =
    let r = quick b c s in
    let c' = handed c r.cpu in
    let rest = after_step c' (interp framed (step c') r.held r.held) (λ d t. joined over counted handed n (b - r.count - 1) d t) in
    pick (over b r.count) r
    (record { stop = rest.stop; place = rest.place; count = counted r.count + rest.count; cpu = rest.cpu; held = rest.held })

-- the right three
abbrev used_up : ℕ → ℕ → Bool
used_up b k = eqb k b

abbrev as_many : ℕ → ℕ
as_many k = k

abbrev as_left : Cpu → Cpu → Cpu
as_left c c' = c'

-- the budget tested before the quick loop, and not again before the plain step; and one instruction kept back there
abbrev tested_before : ℕ → ℕ → Bool
tested_before b k = eqb b 0

abbrev kept_back : ℕ → ℕ → Bool
kept_back b k = leb b (k + 1)

-- the end of the quick loop taken for the run's
abbrev always : ℕ → ℕ → Bool
always b k = true

-- the last instruction of the quick loop counted again, and not at all
abbrev twice : ℕ → ℕ
twice k = k + 1

abbrev one_fewer : ℕ → ℕ
one_fewer k = k - 1

-- the counter kept in the quick loop and not handed on, so that the plain step does again what is done
abbrev not_handed : Cpu → Cpu → Cpu
not_handed c c' = with_pc c' c.pc

-- BCT that counts before it finds its target outside the page, and is then done by the plain step
abbrev counted_by_both : RxFields → Cpu → Prog Cpu
counted_by_both f c = done (branch OnCount 4 f.r1 (rx_address f c) true (with_reg c f.r1 (less_one (reg c f.r1))))

-- LM's first register filled before all of the field is looked up, and it stays where the plain step then refuses
abbrev first_filled : Cpu → Prog Cpu
first_filled c =
    halfword c.pc
    (λ h1.
    halfword (ahead c 2)
    (λ h2.
    let f = rs_of h1 h2 in
    gets (rs_address f c) 4 0 (λ v. done (pick (eqb (op_of h1) 0x98) (with_reg c f.r1 v) c))))

abbrev filling : Way
filling zero c s = run ops_for step 0 c s
filling (suc b) c s = after_step (state (interp framed (first_filled c) s s)) (interp framed (step c) s s) (λ c' s'. filling b c' s')
  where
    state : Answer Cpu Framed → Cpu
    state (finished c' t) = c'
    state (refused n a t) = c

-- a row of two runs from the same start
abbrev runs : String → Way → ℕ → Given → ℕ → ℕ → Row
runs slip way budget g one other =
    row slip (seen (run_outcome budget g)) (seen (behind_door (λ h. way budget (cpu_in h) (store_in h)) g)) one other

-- the machine of `lent`, but page 10 has W and G
abbrev ready : List ℕ → List ℕ → ℕ → List ℕ → ℕ → Given
ready first last word regs pc =
    let g = lent first last word regs pc in
    given g.mem (set g.map 10 0xf000) g.regs pc 0 0

-- instructions at 00A000, page 11's word, and its address in register 2
abbrev here : List ℕ → ℕ → Given
here first word = ready first [] word (0 ∷ 9 ∷ 0xb000 ∷ []) 0xa000

-- AR 1,1 ends page 10; this instruction begins page 11, which has no G
abbrev seam : List ℕ → Given
seam first = ready first (replicate 14 0 ++ 0x1a ∷ 0x11 ∷ []) 0x3000 (0 ∷ 1 ∷ []) 0xaffe

-- Page 0 has M and H set: its 2,048 bytes are the upper half of the frame. BC 15,8 begins it, and LA 1,5 lies at 000008; the same place of
-- the lower half has LA 1,7.
abbrev upper : Given
upper =
    given
    (sets (sets (replicate 4096 0) 8 (0x41 ∷ 0x10 ∷ 0 ∷ 7 ∷ [])) 2048 (0x47 ∷ 0xf0 ∷ 0 ∷ 8 ∷ 0 ∷ 0 ∷ 0 ∷ 0 ∷ 0x41 ∷ 0x10 ∷ 0 ∷ 5 ∷ []))
    (set (replicate 512 0) 0 0x7600)
    (replicate 16 0)
    0
    0
    0

-- Two frames of memory, pages 10 and 11 both on the first: LA 1,5 at 00AFFE; behind the first frame lies what would make it LA 1,7.
abbrev over_the_end : Given
over_the_end =
    given (sets (sets (replicate 8192 0) 0 (0 ∷ 5 ∷ [])) 4094 (0x41 ∷ 0x10 ∷ 0 ∷ 7 ∷ []))
    (sets (replicate 512 0) 10 (0xf000 ∷ 0xf000 ∷ []))
    (replicate 16 0)
    0xaffe
    0
    0

abbrev pub slips : List Row
slips =
    -- L 1,16(2); ST 1,16(2) where page 11 has G and no W; LA 1,5
    runs "an operand loaded from a page without G, and no G set" (run (λ c. noting loads_bare) step) 1
    (here (0x58 ∷ 0x10 ∷ 0x20 ∷ 16 ∷ []) 0x3000) 0x7000 0x3000
    ∷ runs "a store to a page with G and without W, and no W set" (run (λ c. stores_bare) step) 1
    (here (0x50 ∷ 0x10 ∷ 0x20 ∷ 16 ∷ []) 0x7000) 0xf000 0x7000
    ∷ runs "instructions done in a page without G, and no G set" (run (λ c. noting fetches_bare) step) 1
    (lone (0x41 ∷ 0x10 ∷ 0 ∷ 5 ∷ []) []) 0x7000 0x3000
    -- L 1,16(2) where page 11 has G and is not usable; ST 1,16(2) where it has both marks and is not to be written
    ∷ runs "G taken for leave to load" (run (λ c. trusting) step) 1 (here (0x58 ∷ 0x10 ∷ 0x20 ∷ 16 ∷ []) 0x5000) 3 7
    ∷ runs "W and G taken for leave to store" (run (λ c. trusting) step) 1 (here (0x50 ∷ 0x10 ∷ 0x20 ∷ 16 ∷ []) 0xf800) 4 7
    ∷ runs "the counter taken for the real address after a branch" (chained counter_as_place read_byte) 2 upper 5 7
    -- BCR 15,2 to 00A003, where BCR 0,0 stands
    ∷ runs "a branch to an odd address rounded" (run ops_for rounded) 2
    (ready (0x07 ∷ 0xf2 ∷ 0x41 ∷ 0x07 ∷ 0 ∷ 5 ∷ []) [] 0 (0 ∷ 0 ∷ 0xa003 ∷ []) 0xa000) 2 7
    ∷ runs "a branch to an odd address gone on with" (run ops_for odd_too) 2
    (ready (0x07 ∷ 0xf2 ∷ 0x41 ∷ 0x07 ∷ 0 ∷ 5 ∷ []) [] 0 (0 ∷ 0 ∷ 0xa003 ∷ []) 0xa000) 2 7
    -- AR 1,1 by the quick loop, and LA 2,6 by the plain step; where there is no operation for it, the plain step says so
    ∷ runs "a step too many at the seam" (joined tested_before as_many as_left 1) 1 (seam (0x41 ∷ 0x20 ∷ 0 ∷ 6 ∷ [])) 1 2
    ∷ runs "a step too many at the seam, and not counted" (joined tested_before one_fewer as_left 1) 1
    (seam (0x41 ∷ 0x20 ∷ 0 ∷ 6 ∷ [])) 0xb000 0xb004
    ∷ runs "a step too few at the seam" (joined kept_back as_many as_left 2) 2 (seam (0x41 ∷ 0x20 ∷ 0 ∷ 6 ∷ [])) 2 1
    ∷ runs "the end of the quick loop taken for the end of the run" (joined always as_many as_left 2) 2 (seam []) 5 7
    ∷ runs "an instruction counted twice at the seam" (joined used_up twice as_left 2) 2 (seam (0x41 ∷ 0x20 ∷ 0 ∷ 6 ∷ [])) 2 3
    ∷ runs "an instruction done by the quick loop and by the plain step" (joined used_up as_many not_handed 2) 2
    (seam (0x41 ∷ 0x20 ∷ 0 ∷ 6 ∷ [])) 0xb004 0xb000
    -- BCT 1,0(2)
    ∷ runs "a count taken by the quick loop and by the plain step" (run ops_for (step_but 0x46 (as_rx counted_by_both))) 1
    (here (0x46 ∷ 0x10 ∷ 0x20 ∷ 0 ∷ []) 0x3000) 8 7
    -- MVI 7(2),9 changes LA 1,5, which comes next
    ∷ runs "the next instruction read before the store into it" (chained read_ahead read_byte) 2
    (ready (0x92 ∷ 9 ∷ 0x20 ∷ 7 ∷ 0x41 ∷ 0x10 ∷ 0 ∷ 5 ∷ []) [] 0 (0 ∷ 0 ∷ 0xa000 ∷ []) 0xa000) 9 5
    ∷ runs "an instruction read past the end of its page straight on in memory" (run (λ c. reading (straight_on c) c) step) 1 over_the_end 5 7
    -- LM 1,2,0(3) from 00AFFC on, with page 11 absent
    ∷ runs "a register filled by an instruction that is then refused" filling 1
    (ready (0x98 ∷ 0x12 ∷ 0x30 ∷ 0 ∷ []) (replicate 15 0 ++ 7 ∷ []) 0 (0 ∷ 9 ∷ 0 ∷ 0xaffc ∷ []) 0xa000) 9 7
    ∷ []
