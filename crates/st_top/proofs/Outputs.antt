-- The answer of a run, and its output.
use Rattle.st_top.proofs.Common.{◌≡◌, ℕ, List, [], sym, ◌∙◌, ap, subst, Result, Ok, Err, OnOk, OnErr, OutputState, Wrote, Failed, text, StoppedAt, wrote_at_moment, opening_state, Scene, Program, IsReading, read_text, reading-is, Output, lines_alone, output_of_run, scene_at_start, loaded_by, loaded_start, WroteAll, Writes, WritesEvents, Answer, Done, WriteFault}
use Rattle.st_telling.specs.declared.moment.Moment.{Moment}
use Rattle.st_top.proofs.Starts.{no_cards}

pub writes_run : (s t : OutputState) (output : Output) (last m : Moment) (answer : Answer) (r : Result (Unit {0}) Failed) → output.status ≡ Done → output.done ≡ last.done → output.ticks ≡ last.tick → WritesEvents s t output.events last m r → answer.done ≡ m.done → answer.ticks ≡ m.tick → OnOk r (answer.status ≡ Done) → OnErr r (answer.status ≡ WriteFault) → Writes answer.status s t output answer
writes_run s t output last m answer (Ok x) status done ticks w count tick good bad =
    let all : WroteAll s t output answer = record {
      status = good ∙ sym status;
      wrote = w.whole;
      done = count ∙ (ap (λ (k : Moment). k.done) w.ended ∙ sym done);
      ticks = tick ∙ (ap (λ (k : Moment). k.tick) w.ended ∙ sym ticks);
    } in
    subst (λ st. Writes st s t output answer) (sym good) all
writes_run s t output last m answer (Err x) status done ticks w count tick good bad =
    let stopped : StoppedAt s t output.events answer.done answer.ticks =
    subst (λ k. StoppedAt s t output.events answer.done k) (sym tick) (subst (λ n. StoppedAt s t output.events n m.tick) (sym count) w.stopped) in
    subst (λ st. Writes st s t output answer) (sym bad) stopped

pub writes_output : (s t : OutputState) (output other : Output) (answer : Answer) → output ≡ other → Writes answer.status s t output answer → Writes answer.status s t other answer
writes_output s t output other answer e h = subst (λ o. Writes answer.status s t o answer) e h

-- all lines of an output without a run are written
pub wrote_alone : (s t : OutputState) (ls : List (List ℕ)) (answer : Answer) → Wrote s t (text ls) → answer.status ≡ Done → answer.done ≡ 0 → answer.ticks ≡ 0 → Writes answer.status s t (lines_alone Done ls) answer
wrote_alone s t ls answer w good done ticks =
    let all : WroteAll s t (lines_alone Done ls) answer = record { status = good; wrote = wrote_at_moment s t 0 0 ls w; done = done; ticks = ticks } in
    subst (λ st. Writes st s t (lines_alone Done ls) answer) (sym good) all

-- the start of a loaded program is that of a job with an empty reader
pub loaded_scene : (p : Program) → scene_at_start p.words p.start p.controls [] ≡ loaded_start p
loaded_scene p =
    let with_cards : List (List ℕ) → Scene = λ cards. record { machine = opening_state p.words p.start; signals = p.controls.signals; cards = cards } in
    ap with_cards no_cards

pub loaded_is : (p : Program) → output_of_run [] p.controls (scene_at_start p.words p.start p.controls []) ≡ loaded_by (Ok p)
loaded_is p = ap (output_of_run [] p.controls) (loaded_scene p)

-- the parser finds the reading of an object text
pub text_is_read : (text : List ℕ) → IsReading text (read_text text)
text_is_read text = reading-is text
