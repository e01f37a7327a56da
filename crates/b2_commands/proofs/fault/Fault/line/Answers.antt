use Rattle.std.proofs.Common.{◌≤◌, ◌++◌, length, length-append, codes, decimal, arith, rules}
use Rattle.std.proofs.lemmas.Fmt.{length-decimal-le}
use Rattle.b2_commands.specs.declared.fault.Fault.{Fault}
use Rattle.b2_commands.specs.declared.fault.Fault.TheVariants.{WrongWords, WrongHex, WrongLength}
use Rattle.b2_commands.specs.declared.fault.Fault.TheVariants.{WrongLine}
use Rattle.b2_commands.specs.declared.fault.Fault.TheVariants.{NoSuchSlot, LineTooLong, TooLong}
use Rattle.b2_commands.specs.declared.fault.Fault.TheVariants.{ReadFailed, NoMemory, WriteFailed}
use Rattle.b2_commands.specs.Faults.{fault_message}
use Rattle.b2_commands.proofs.fault.Fault.line.Goals as goal
use Rattle.b2_commands.proofs.fault.Fault.line.Goals.{in-Some, in_default}

-- The message of an error is short.
fault_message-at_most_12_bytes : (fault : Fault) → length (fault_message fault) ≤ 12
fault_message-at_most_12_bytes WrongWords = omega arith
fault_message-at_most_12_bytes WrongHex = omega arith
fault_message-at_most_12_bytes WrongLength = omega arith
fault_message-at_most_12_bytes (WrongLine number) = omega arith
fault_message-at_most_12_bytes (NoSuchSlot number) = omega arith
fault_message-at_most_12_bytes (LineTooLong number) = omega arith
fault_message-at_most_12_bytes TooLong = omega arith
fault_message-at_most_12_bytes ReadFailed = omega arith
fault_message-at_most_12_bytes NoMemory = omega arith
fault_message-at_most_12_bytes WriteFailed = omega arith

pub push_decimal-requires : goal.push_decimal-requires
push_decimal-requires c =
    let digits : length (decimal c.in-Some.number) ≤ 20 = search (rules, length-decimal-le 20) in
    rw (c.push.ensures, c.starting-line.ensures) (omega (arith, digits))

pub push-requires-in-Some : goal.push-requires-in-Some
push-requires-in-Some c =
    let digits : length (decimal c.in-Some.number) ≤ 20 = search (rules, length-decimal-le 20) in
    rw (c.push_decimal.ensures, c.push.ensures, c.starting-line.ensures) (omega (arith, digits))

pub push-requires-2 : goal.push-requires-2
push-requires-2 c =
    rw (c.as_bytes.ensures.value, c.message_text.ensures) (
    elim c.match-script_line.branch [
      | in-Some w ↦
          let number = w.in-Some.number in
          let digits : length (decimal number) ≤ 20 = search (rules, length-decimal-le 20) in
          rw (
            w.line-is,
            w.push-in-Some.ensures,
            w.push_decimal.ensures,
            w.push.ensures,
            c.starting-line.ensures,
          )
          (omega (
            arith,
            digits,
            fault_message-at_most_12_bytes c.args.self,
            length-append
                (decimal number) (codes ": "),
          ))
      | in_default w ↦
          rw (w.line-is, c.starting-line.ensures)
          (omega (arith, fault_message-at_most_12_bytes c.args.self))
    ]
    )

pub returns-clause-room : goal.returns-clause-room
returns-clause-room c =
    rw (c.push-2.ensures, c.as_bytes.ensures.value, c.message_text.ensures) (
    elim c.match-script_line.branch [
      | in-Some w ↦
          let number = w.in-Some.number in
          let digits : length (decimal number) ≤ 20 = search (rules, length-decimal-le 20) in
          rw (
            w.line-is,
            w.push-in-Some.ensures,
            w.push_decimal.ensures,
            w.push.ensures,
            c.starting-line.ensures,
          )
          (omega (
            arith,
            digits,
            fault_message-at_most_12_bytes c.args.self,
            length-append (decimal number ++ codes ": ")
                (fault_message c.args.self),
            length-append (decimal number) (codes ": "),
          ))
      | in_default w ↦
          rw (w.line-is, c.starting-line.ensures)
          (omega (arith, fault_message-at_most_12_bytes c.args.self))
    ]
    )
