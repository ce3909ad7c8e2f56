-- The framed store's operations.
use Rattle.pages.specs.Look.{verdict_of}
use Rattle.pages.specs.Framed.{Framed, look_in, noted, read_byte, write_byte}
use Rattle.machine.specs.Prog.{Ops}

abbrev pub framed : Ops Framed
framed =
    record {
      looked = λ s acc a. verdict_of (look_in s acc a);
      noted = λ s acc a. noted s a;
      read = λ s a. read_byte s a;
      wrote = λ s a v. write_byte s a v;
    }
